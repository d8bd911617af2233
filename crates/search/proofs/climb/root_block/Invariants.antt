-- `climb::root_block` meets its contract. The loop's invariant is `Reached`; the measure is the node, which each turn
-- halves.
use Rattle.search.proofs.Holding.{Reached}
use Rattle.search.proofs.climb.root_block.Given as goal

abbrev pub invariant-loop-v : goal.invariant-loop-v
invariant-loop-v l = Reached l.layout l.k l.serial l.heads l.table l.v l.place

abbrev pub decreases-loop-v : goal.decreases-loop-v
decreases-loop-v l = l.v
