-- `block_steps::step_v2` meets its contract.
use mathlib.Core.Path.{◌≡◌, refl, sym, ◌∙◌}
use Rattle.tree.specs.Memory.{block, write, set_super}
use Rattle.steps.specs.declared.Step.TheVariants.{V2}
use Rattle.steps.specs.Rules.{step, go}
use Rattle.stepping.specs.Clauses.Next.{step_in}
use Rattle.stepping.proofs.StepNames.{busy}
use borrow.Author.Rules.{rules}
use Rattle.block_steps.proofs.step_v2.Goals.{In-V2}
use Rattle.block_steps.proofs.step_v2.Goals as goal

at : (c : In-V2) → step_in c.args.q.status ≡ V2 c.in-V2.after c.in-V2.visit c.in-V2.node c.in-V2.place c.in-V2.above
at c = sym c.step_in.ensures ∙ c.in-V2.is

pub returns-in_default : goal.returns-in_default
returns-in_default c = λ number. (λ a b i j k e. absurd (c.in_default.not-V2 a b i j k (c.step_in.ensures ∙ e)), λ _. (refl, refl))

pub set_super_at-requires : goal.set_super_at-requires
set_super_at-requires c = let p = c.requires.1 _ _ _ _ _ (at (goal.at.set_super_at-requires c).In-V2) in search rules

pub moved-requires : goal.moved-requires
moved-requires c = (search rules, busy _ (at (goal.at.moved-requires c).In-V2) tt)

pub returns : goal.returns
unfolding step go set_super write block
returns c =
    let here = at (goal.at.returns c).In-V2 in λ number. (
      λ _ _ _ _ _ _. rw c.moved.ensures (
        refl,
        λ k o heads. rw (here, c.by_fields-visit.ensures, c.set_super_at.ensures),
      ),
      λ no. absurd (no _ _ _ _ _ here),
    )
