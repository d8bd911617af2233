-- `head_steps::step_r4` meets its contract.
use mathlib.Core.Path.{◌≡◌, refl, sym, ◌∙◌}
use Rattle.tree.specs.Shape.{right_of}
use Rattle.tree.specs.Memory.{head_of}
use Rattle.steps.specs.declared.Step.TheVariants.{R4}
use Rattle.steps.specs.Rules.{step, go}
use Rattle.stepping.specs.Clauses.Next.{step_in}
use Rattle.stepping.proofs.StepNames.{busy}
use borrow.Author.Rules.{rules}
use Rattle.head_steps.proofs.step_r4.Goals.{In-R4}
use Rattle.head_steps.proofs.step_r4.Goals as goal

at : (c : In-R4) → step_in c.args.q.status ≡ R4 c.in-R4.visit
at c = sym c.step_in.ensures ∙ c.in-R4.is

pub returns-in_default : goal.returns-in_default
returns-in_default c = (λ a e. absurd (c.in_default.not-R4 a (c.step_in.ensures ∙ e)), λ _. (refl, refl))

pub overflow_mul-visit : goal.overflow_mul-visit
overflow_mul-visit c = let p = c.requires.1 _ (at (goal.at.overflow_mul-visit c).In-R4) in search rules

pub overflow_add-visit : goal.overflow_add-visit
overflow_add-visit c = let p = c.requires.1 _ (at (goal.at.overflow_add-visit c).In-R4) in search rules

pub head_of-child-requires : goal.head_of-child-requires
head_of-child-requires c = let p = c.requires.1 _ (at (goal.at.head_of-child-requires c).In-R4) in search rules

pub moved-requires : goal.moved-requires
moved-requires c = (search rules, busy _ (at (goal.at.moved-requires c).In-R4) tt)

pub returns : goal.returns
unfolding step go head_of right_of
returns c =
    let here = at (goal.at.returns c).In-R4 in
    (λ _ _. rw c.moved.ensures (refl, λ s number k o table. rw (here, c.head_of-child.ensures)), λ no. absurd (no _ here))
