-- `head_steps::step_r1` meets its contract.
use mathlib.Core.Path.{◌≡◌, refl, sym, ◌∙◌}
use Rattle.tree.specs.Memory.{head_of}
use Rattle.steps.specs.declared.Step.TheVariants.{R1}
use Rattle.steps.specs.Rules.{step, go}
use Rattle.stepping.specs.Clauses.Next.{step_in}
use Rattle.stepping.proofs.StepNames.{busy}
use borrow.Author.Rules.{rules}
use Rattle.head_steps.proofs.step_r1.Goals.{In-R1}
use Rattle.head_steps.proofs.step_r1.Goals as goal

at : (c : In-R1) → step_in c.args.q.status ≡ R1 c.in-R1.refresh c.in-R1.node
at c = sym c.step_in.ensures ∙ c.in-R1.is

pub returns-in_default : goal.returns-in_default
returns-in_default c = (λ a b e. absurd (c.in_default.not-R1 a b (c.step_in.ensures ∙ e)), λ _. (refl, refl))

pub head_of-requires : goal.head_of-requires
head_of-requires c = let p = c.requires.1 _ _ (at (goal.at.head_of-requires c).In-R1) in search rules

pub moved-requires : goal.moved-requires
moved-requires c = (search rules, busy _ (at (goal.at.moved-requires c).In-R1) tt)

pub returns : goal.returns
unfolding step go head_of
returns c =
    let here = at (goal.at.returns c).In-R1 in
    (λ _ _ _. rw c.moved.ensures (refl, λ s number k o table. rw (here, c.head_of.ensures)), λ no. absurd (no _ _ here))
