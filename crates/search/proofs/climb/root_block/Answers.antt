-- `climb::root_block` meets its contract. The loop's invariant is `Reached`; the measure is the node, which each turn
-- halves.
use native.Mathlib.Omega.{arith}
use Rattle.search.proofs.LeafHolds.{leaf_reached}
use Rattle.search.proofs.ClimbLaws.{node_first, top_block, node_ascends, climbs}
use Rattle.search.proofs.climb.root_block.Goals as goal

pub loop-v-init : goal.loop-v-init
loop-v-init c = rw c.leaf_of-v.ensures.0 (leaf_reached _ _ _ _ _ c.requires)

pub holder-place-requires : goal.holder-place-requires
holder-place-requires c = node_ascends c.loop-v.invariant c.loop-v-test.true

pub loop-v-smaller : goal.loop-v-smaller
loop-v-smaller c = omega (arith, node_first c.loop-v.invariant, c.loop-v-test.true)

pub loop-v-preserved : goal.loop-v-preserved
loop-v-preserved c = climbs c.loop-v.invariant c.loop-v-test.true c.holder-place.ensures

pub returns : goal.returns
returns c = top_block c.loop-v.invariant c.loop-v-test.false
