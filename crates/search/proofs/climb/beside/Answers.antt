-- `climb::beside` meets its contract.
use borrow.Author.Tests.{eq-eqb, ne_eqb}
use Rattle.tree.specs.Order.{total}
use Rattle.search.specs.Clauses.Climbing.{beside_of}
use Rattle.search.proofs.climb.beside.Goals as goal

pub returns-then-v-eq0 : goal.returns-then-v-eq0
unfolding beside_of total
returns-then-v-eq0 c = rw (eq-eqb _ _ c.if-v-eq0.true, ← c.block_at-end.ensures, ← c.block_at.ensures)

pub returns : goal.returns
unfolding beside_of total
returns c = rw (ne_eqb _ _ c.if-v-eq0.false, ← c.block_at-end-2.ensures, ← c.block_at-2.ensures)
