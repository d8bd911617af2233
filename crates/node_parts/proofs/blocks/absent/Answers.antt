-- `blocks::absent` meets its contract. Both tests are those of the definition.
use borrow.Author.Tests.{eq-eqb, ne_eqb}
use Rattle.tree.specs.Blocks.{absent}
use Rattle.node_parts.proofs.blocks.absent.Goals as goal

pub returns-then-b-eq0 : goal.returns-then-b-eq0
unfolding absent
returns-then-b-eq0 c = rw (eq-eqb _ _ c.if-b-eq0.true)

pub returns-else-b-eq0 : goal.returns-else-b-eq0
unfolding absent
returns-else-b-eq0 c = rw (ne_eqb _ _ c.if-b-eq0.false)
