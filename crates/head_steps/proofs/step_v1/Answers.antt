-- `head_steps::step_v1` meets its contract.
use mathlib.Core.Path.{◌≡◌, refl, sym, ◌∙◌}
use Rattle.tree.specs.Shape.{parent_of}
use Rattle.tree.specs.Memory.{head_of}
use Rattle.steps.specs.declared.Step.TheVariants.{V1}
use Rattle.steps.specs.Rules.{step, go}
use Rattle.stepping.specs.Clauses.Next.{step_in}
use Rattle.stepping.proofs.StepNames.{busy}
use borrow.Author.Rules.{rules}
use Rattle.head_steps.proofs.step_v1.Goals.{In-V1}
use Rattle.head_steps.proofs.step_v1.Goals as goal

at : (c : In-V1) → step_in c.args.q.status ≡ V1 c.in-V1.after c.in-V1.visit c.in-V1.node c.in-V1.place
at c = sym c.step_in.ensures ∙ c.in-V1.is

pub returns-in_default : goal.returns-in_default
returns-in_default c = (λ a b i j e. absurd (c.in_default.not-V1 a b i j (c.step_in.ensures ∙ e)), λ _. (refl, refl))

pub head_of-above-requires : goal.head_of-above-requires
head_of-above-requires c = let p = c.requires.1 _ _ _ _ (at (goal.at.head_of-above-requires c).In-V1) in search rules

pub moved-requires : goal.moved-requires
moved-requires c = (search rules, busy _ (at (goal.at.moved-requires c).In-V1) tt)

pub returns : goal.returns
unfolding step go head_of parent_of
returns c =
    let here = at (goal.at.returns c).In-V1 in (
      λ _ _ _ _ _. rw c.moved.ensures (refl, λ s number k o table. rw (here, c.head_of-above.ensures, c.by_fields-visit.ensures)),
      λ no. absurd (no _ _ _ _ here),
    )
