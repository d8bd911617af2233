-- `block_steps::step_r5` meets its contract.
use mathlib.Core.Path.{◌≡◌, refl, sym, ◌∙◌}
use Rattle.tree.specs.Shape.{right_of}
use Rattle.steps.specs.declared.Step.TheVariants.{R5}
use Rattle.steps.specs.Rules.{of_child, step, go}
use Rattle.stepping.specs.Clauses.Next.{step_in}
use Rattle.stepping.proofs.StepNames.{busy}
use borrow.Author.Rules.{rules}
use Rattle.block_steps.proofs.step_r5.Goals.{In-R5}
use Rattle.block_steps.proofs.step_r5.Goals as goal

at : (c : In-R5) → step_in c.args.q.status ≡ R5 c.in-R5.visit c.in-R5.child
at c = sym c.step_in.ensures ∙ c.in-R5.is

pub returns-in_default : goal.returns-in_default
returns-in_default c = λ number. (λ a b e. absurd (c.in_default.not-R5 a b (c.step_in.ensures ∙ e)), λ _. (refl, refl))

pub overflow_mul-v : goal.overflow_mul-v
overflow_mul-v c = let p = c.requires.1 _ _ (at (goal.at.overflow_mul-v c).In-R5) in search rules

pub overflow_add-v : goal.overflow_add-v
overflow_add-v c = let p = c.requires.1 _ _ (at (goal.at.overflow_add-v c).In-R5) in search rules

pub help-requires : goal.help-requires
unfolding of_child
help-requires c = let p = c.requires.1 _ _ (at (goal.at.help-requires c).In-R5) in search rules

pub moved-requires : goal.moved-requires
moved-requires c = (search rules, busy _ (at (goal.at.moved-requires c).In-R5) tt)

pub returns : goal.returns
unfolding step go right_of
returns c =
    let here = at (goal.at.returns c).In-R5 in
    λ number. (λ _ _ _. rw c.moved.ensures (refl, λ k o heads. rw (here, c.help.ensures heads)), λ no. absurd (no _ _ here))
