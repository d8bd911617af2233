-- `list::list_block` and `list::list_range` meet their contracts.
use Prim.Native.Nat.{ℕ}
use native.Mathlib.Omega.{arith}
use mathlib.Core.Path.{refl, ap}
use Rattle.tree.specs.Shape.{left_of, right_of}
use Rattle.order.specs.declared.Subtree.{Subtree}
use Rattle.base.proofs.Gather.{gather_none}
use Rattle.base.proofs.Stored.{stored_none}
use Rattle.order.proofs.Storing.{room_first, room_second, stored_both, gathered_room, gathered_more}
use Rattle.order.proofs.Subblocks.{block_first, block_place, range_block, block_parts}
use Rattle.order.proofs.list.+list_block_list_range.Goals as goal

abbrev height : Subtree → ℕ
height y = y.height

-- ---- list_block
pub list_block-overflow_sub-b : goal.list_block-overflow_sub-b
list_block-overflow_sub-b t c = block_first c.requires.holds

pub list_block-block_at-old-requires : goal.list_block-block_at-old-requires
list_block-block_at-old-requires t c = block_place c.requires.holds _ (omega arith)

pub list_block-block_at-new-requires : goal.list_block-block_at-new-requires
list_block-block_at-new-requires t c = block_place c.requires.holds _ (omega arith)

pub list_block-list_range-next-requires : goal.list_block-list_range-next-requires
unfolding left_of right_of
list_block-list_range-next-requires t c =
    let p = c.requires in (
      omega (arith, ap height c.child-left.ensures, ap height c.child-right.ensures),
      room_first (block_parts c.args.list c.if-top-eq0.false c.block_at-old.ensures c.block_at-new.ensures c.child-left.ensures c.child-right.ensures) p,
    )

pub list_block-list_range-requires : goal.list_block-list_range-requires
unfolding left_of right_of
list_block-list_range-requires t c =
    let p = c.requires in (
      omega (arith, ap height c.child-left.ensures, ap height c.child-right.ensures),
      room_second (block_parts c.args.list c.if-top-eq0.false c.block_at-old.ensures c.block_at-new.ensures c.child-left.ensures c.child-right.ensures)
          p refl c.list_range-next.ensures,
    )

pub list_block-returns : goal.list_block-returns
unfolding left_of right_of
list_block-returns t c =
    stored_both (block_parts c.args.list c.if-top-eq0.false c.block_at-old.ensures c.block_at-new.ensures c.child-left.ensures c.child-right.ensures)
    c.requires refl c.list_range-next.ensures c.list_range.ensures

-- ---- list_range
pub list_range-loop-b-init : goal.list_range-loop-b-init
list_range-loop-b-init t c = rw gather_none (stored_none _ _)

pub list_range-list_block-end-requires : goal.list_range-list_block-end-requires
list_range-list_block-end-requires t c =
    let l = c.loop-b-test.true in
    (omega arith, gathered_room _ (omega arith) l (range_block _ l) c.requires c.loop-b.invariant)

pub list_range-loop-b-preserved : goal.list_range-loop-b-preserved
list_range-loop-b-preserved t c =
    let l = c.loop-b-test.true in
    gathered_more _ (omega arith) l (range_block _ l) c.requires c.loop-b.invariant c.list_block-end.ensures
