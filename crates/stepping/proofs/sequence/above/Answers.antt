-- `sequence::above` meets its contract.
use borrow.Author.Tests.{eq-eqb, ne_eqb}
use Rattle.tree.specs.Shape.{root, parent_of}
use Rattle.steps.specs.Rules.{above}
use Rattle.stepping.proofs.sequence.above.Goals as goal

-- v is the root
pub returns-then-v-eq1 : goal.returns-then-v-eq1
unfolding above root
returns-then-v-eq1 c = simp (eq-eqb _ _ c.if-v-eq1.true)

-- v is below it
pub returns : goal.returns
unfolding above root parent_of
returns c = simp (ne_eqb _ _ c.if-v-eq1.false)
