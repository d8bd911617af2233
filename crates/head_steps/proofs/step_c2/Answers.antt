-- `head_steps::step_c2` meets its contract.
use mathlib.Core.Path.{◌≡◌, refl, sym, ◌∙◌}
use Rattle.tree.specs.Shape.{right_of}
use Rattle.tree.specs.Memory.{head_of}
use Rattle.steps.specs.declared.Step.TheVariants.{C2}
use Rattle.steps.specs.Rules.{step, go}
use Rattle.stepping.specs.Clauses.Next.{step_in}
use Rattle.stepping.proofs.StepNames.{busy}
use borrow.Author.Rules.{rules}
use Rattle.head_steps.proofs.step_c2.Goals.{In-C2}
use Rattle.head_steps.proofs.step_c2.Goals as goal

at : (c : In-C2) → step_in c.args.q.status ≡ C2 c.in-C2.visit c.in-C2.left
at c = sym c.step_in.ensures ∙ c.in-C2.is

pub returns-in_default : goal.returns-in_default
returns-in_default c = (λ a b e. absurd (c.in_default.not-C2 a b (c.step_in.ensures ∙ e)), λ _. (refl, refl))

pub overflow_mul-visit : goal.overflow_mul-visit
overflow_mul-visit c = let p = c.requires.1 _ _ (at (goal.at.overflow_mul-visit c).In-C2) in search rules

pub overflow_add-visit : goal.overflow_add-visit
overflow_add-visit c = let p = c.requires.1 _ _ (at (goal.at.overflow_add-visit c).In-C2) in search rules

pub head_of-right-requires : goal.head_of-right-requires
head_of-right-requires c = let p = c.requires.1 _ _ (at (goal.at.head_of-right-requires c).In-C2) in search rules

pub overflow_sub-right : goal.overflow_sub-right
overflow_sub-right c = let p = c.requires.1 _ _ (at (goal.at.overflow_sub-right c).In-C2) in search rules

pub moved-requires : goal.moved-requires
moved-requires c = (search rules, busy _ (at (goal.at.moved-requires c).In-C2) tt)

pub returns : goal.returns
unfolding step go head_of right_of
returns c =
    let here = at (goal.at.returns c).In-C2 in
    (λ _ _ _. rw c.moved.ensures (refl, λ s number k o table. rw (here, c.head_of-right.ensures)), λ no. absurd (no _ _ here))
