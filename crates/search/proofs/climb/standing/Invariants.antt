-- `climb::standing` meets its contract. The loop's invariant is that of `root_block` with the count, `Counted`; the
-- measure is the node, which each turn halves.
use Rattle.tree.specs.declared.Kind.TheVariants.{Takes}
use Rattle.search.proofs.Holding.{Counted}
use Rattle.search.proofs.climb.standing.Given as goal

abbrev pub invariant-loop-v : goal.invariant-loop-v
invariant-loop-v l = Counted l.layout l.k l.serial l.heads l.table Takes l.v l.place l.number

abbrev pub decreases-loop-v : goal.decreases-loop-v
decreases-loop-v l = l.v
