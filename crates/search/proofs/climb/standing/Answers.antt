-- `climb::standing` meets its contract. The loop's invariant is that of `root_block` with the count, `Counted`; the
-- measure is the node, which each turn halves.
use native.Mathlib.Omega.{arith}
use Rattle.tree.specs.Order.{total}
use Rattle.search.proofs.LeafHolds.{leaf_place, leaf_counted}
use Rattle.search.proofs.ClimbLaws.{node_first, top_place, node_ascends, node_beside, number_small, top_low, top_stands, climbs_counted}
use Rattle.search.proofs.climb.standing.Goals as goal

pub block_at-number-requires : goal.block_at-number-requires
block_at-number-requires c = rw c.leaf_of-v.ensures.0 (leaf_place _ _ _ _ _ c.requires.0)

pub loop-v-init : goal.loop-v-init
unfolding total
loop-v-init c = rw (c.block_at-number.ensures, c.leaf_of-v.ensures.0) (leaf_counted _ _ _ _ _ c.requires.0 _)

pub holder-b-requires : goal.holder-b-requires
holder-b-requires c = node_ascends c.loop-v.invariant.at c.loop-v-test.true

pub beside-number-requires : goal.beside-number-requires
beside-number-requires c = node_beside c.loop-v.invariant.at c.loop-v-test.true c.holder-b.ensures

pub overflow_add-number : goal.overflow_add-number
overflow_add-number c =
    rw c.beside-number.ensures
    (omega (arith, number_small (climbs_counted c.loop-v.invariant c.loop-v-test.true c.holder-b.ensures)))

pub loop-v-smaller : goal.loop-v-smaller
loop-v-smaller c = omega (arith, node_first c.loop-v.invariant.at, c.loop-v-test.true)

pub loop-v-preserved : goal.loop-v-preserved
loop-v-preserved c =
    rw c.beside-number.ensures (climbs_counted c.loop-v.invariant c.loop-v-test.true c.holder-b.ensures)

pub overflow_sub-place : goal.overflow_sub-place
overflow_sub-place c = c.loop-v.invariant.at.holds.some

pub block_at-before-requires : goal.block_at-before-requires
block_at-before-requires c = top_place c.loop-v.invariant.at c.loop-v-test.false

pub overflow_sub-result : goal.overflow_sub-result
unfolding total
overflow_sub-result c = rw c.block_at-before.ensures (top_low c.loop-v.invariant c.loop-v-test.false)

pub returns : goal.returns
unfolding total
returns c = rw c.block_at-before.ensures (top_stands c.loop-v.invariant c.loop-v-test.false c.requires.1)
