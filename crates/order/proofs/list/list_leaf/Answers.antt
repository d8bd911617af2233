-- `list::list_leaf` meets its contract.
use native.Mathlib.Omega.{arith}
use mathlib.Core.Path.{◌∙◌}
use Rattle.record.proofs.Lengths.{order_record_length}
use Rattle.base.proofs.Stored.{stored_none, stored_part}
use Rattle.order.proofs.Subblocks.{block_first, block_small, block_place}
use Rattle.order.proofs.LeafRecords.{leaf_process, leaf_small, leaf_none, leaf_one}
use Rattle.order.proofs.list.list_leaf.Goals as goal

pub adds-requires : goal.adds-requires
adds-requires c = let g = c.requires.holds in (block_first g, block_place g _ (omega arith), block_place g _ (omega arith))

pub overflow_sub-record : goal.overflow_sub-record
overflow_sub-record c = rw c.processes.ensures.0 (leaf_process c.requires.holds)

pub overflow_cast-record-then-adds : goal.overflow_cast-record-then-adds
overflow_cast-record-then-adds c = omega (arith, leaf_small c.requires.holds)

pub overflow_cast-record-then-adds-2 : goal.overflow_cast-record-then-adds-2
overflow_cast-record-then-adds-2 c = omega (arith, block_small c.requires.holds)

pub slice_bounds-copy_from_slice-end : goal.slice_bounds-copy_from_slice-end
slice_bounds-copy_from_slice-end c =
    let q = c.requires in
    let a = c.args in
    let one = leaf_one a.layout.now a.table.now a.list a.leaf a.b (rw (← c.adds.ensures) c.if-adds.true) in
    omega (arith, rw (one, order_record_length) at q.fits)

pub returns-then-adds : goal.returns-then-adds
returns-then-adds c =
    let q = c.requires in
    let a = c.args in
    let one = leaf_one a.layout.now a.table.now a.list a.leaf a.b (rw (← c.adds.ensures) c.if-adds.true) in
    rw one
    (stored_part _ _ _ 8 _ (omega (arith, rw (one, order_record_length) at q.fits)) (order_record_length _)
    (c.copy_from_slice.ensures.after ∙ rw (c.kind_number.ensures, c.processes.ensures.0) at c.from.ensures))

pub returns : goal.returns
returns c =
    let a = c.args in
    rw (leaf_none a.layout.now a.table.now a.list a.leaf a.b (rw (← c.adds.ensures) c.if-adds.false)) (stored_none _ _)
