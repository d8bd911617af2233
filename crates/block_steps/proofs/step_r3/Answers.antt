-- `block_steps::step_r3` meets its contract.
use mathlib.Core.Path.{◌≡◌, refl, sym, ◌∙◌}
use Rattle.tree.specs.Shape.{left_of}
use Rattle.steps.specs.declared.Step.TheVariants.{R3}
use Rattle.steps.specs.Rules.{of_child, step, go}
use Rattle.stepping.specs.Clauses.Next.{step_in}
use Rattle.stepping.proofs.StepNames.{busy}
use borrow.Author.Rules.{rules}
use Rattle.block_steps.proofs.step_r3.Goals.{In-R3}
use Rattle.block_steps.proofs.step_r3.Goals as goal

at : (c : In-R3) → step_in c.args.q.status ≡ R3 c.in-R3.visit c.in-R3.child
at c = sym c.step_in.ensures ∙ c.in-R3.is

pub returns-in_default : goal.returns-in_default
returns-in_default c = λ number. (λ a b e. absurd (c.in_default.not-R3 a b (c.step_in.ensures ∙ e)), λ _. (refl, refl))

pub overflow_mul-v : goal.overflow_mul-v
overflow_mul-v c = let p = c.requires.1 _ _ (at (goal.at.overflow_mul-v c).In-R3) in search rules

pub help-requires : goal.help-requires
unfolding of_child
help-requires c = let p = c.requires.1 _ _ (at (goal.at.help-requires c).In-R3) in search rules

pub moved-requires : goal.moved-requires
moved-requires c = (search rules, busy _ (at (goal.at.moved-requires c).In-R3) tt)

pub returns : goal.returns
unfolding step go left_of
returns c =
    let here = at (goal.at.returns c).In-R3 in
    λ number. (λ _ _ _. rw c.moved.ensures (refl, λ k o heads. rw (here, c.help.ensures heads)), λ no. absurd (no _ _ here))
