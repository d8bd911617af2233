-- `head_steps::step_c1` meets its contract.
use mathlib.Core.Path.{◌≡◌, refl, sym, ◌∙◌}
use Rattle.tree.specs.Shape.{left_of}
use Rattle.tree.specs.Memory.{head_of}
use Rattle.steps.specs.declared.Step.TheVariants.{C1}
use Rattle.steps.specs.Rules.{step, go}
use Rattle.stepping.specs.Clauses.Next.{step_in}
use Rattle.stepping.proofs.StepNames.{busy}
use borrow.Author.Rules.{rules}
use Rattle.head_steps.proofs.step_c1.Goals.{In-C1}
use Rattle.head_steps.proofs.step_c1.Goals as goal

at : (c : In-C1) → step_in c.args.q.status ≡ C1 c.in-C1.visit
at c = sym c.step_in.ensures ∙ c.in-C1.is

pub returns-in_default : goal.returns-in_default
returns-in_default c = (λ a e. absurd (c.in_default.not-C1 a (c.step_in.ensures ∙ e)), λ _. (refl, refl))

pub overflow_mul-visit : goal.overflow_mul-visit
overflow_mul-visit c = let p = c.requires.1 _ (at (goal.at.overflow_mul-visit c).In-C1) in search rules

pub head_of-left-requires : goal.head_of-left-requires
head_of-left-requires c = let p = c.requires.1 _ (at (goal.at.head_of-left-requires c).In-C1) in search rules

pub overflow_sub-left : goal.overflow_sub-left
overflow_sub-left c = let p = c.requires.1 _ (at (goal.at.overflow_sub-left c).In-C1) in search rules

pub moved-requires : goal.moved-requires
moved-requires c = (search rules, busy _ (at (goal.at.moved-requires c).In-C1) tt)

pub returns : goal.returns
unfolding step go head_of left_of
returns c =
    let here = at (goal.at.returns c).In-C1 in
    (λ _ _. rw c.moved.ensures (refl, λ s number k o table. rw (here, c.head_of-left.ensures)), λ no. absurd (no _ here))
