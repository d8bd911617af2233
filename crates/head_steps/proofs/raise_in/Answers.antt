-- `head_steps::raise_in` meets its contract.
use mathlib.Core.Path.{◌≡◌, sym, ◌∙◌}
use Rattle.steps.specs.declared.Step.TheVariants.{V3}
use Rattle.stepping.specs.Clauses.Next.{step_in}
use Rattle.stepping.proofs.StepNames.{same_advance}
use borrow.Author.Rules.{rules}
use Rattle.head_steps.proofs.raise_in.Goals.{In-V3}
use Rattle.head_steps.proofs.raise_in.Goals as goal

at : (c : In-V3) → step_in c.args.q.status ≡ V3 c.in-V3.after c.in-V3.visit c.in-V3.node c.in-V3.place
at c = sym c.step_in.ensures ∙ c.in-V3.is

pub raise-requires : goal.raise-requires
raise-requires c = let p = c.requires _ _ _ _ (at (goal.at.raise-requires c).In-V3) in search rules

pub returns : goal.returns
returns c =
    let here = at (goal.at.returns c).In-V3 in
    let r = c.raise in (
      λ _ _ _ _ e. let same = same_advance (sym here ∙ e) in rw (← same.1, ← same.2) (r.ensures.head, r.ensures.told),
      λ no. absurd (no _ _ _ _ here),
    )
