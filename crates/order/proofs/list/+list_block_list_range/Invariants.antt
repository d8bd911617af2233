-- `list::list_block` and `list::list_range` meet their contracts. Both measures are the node's height, which list_block
-- lowers by one; a range counts for more than a block of its node. The invariant of the loop: the blocks after `from`,
-- up to b, are stored.
use Prim.Native.Nat.{◌+◌, ◌*◌}
use mathlib.Core.List.{flat_map}
use Rattle.base.specs.Between.{between}
use Rattle.base.specs.Clauses.Stored.{Stored}
use Rattle.order.specs.Clauses.Listed.{block_records}
use Rattle.order.proofs.list.+list_block_list_range.Given as goal

abbrev pub decreases-list_block : goal.decreases-list_block
decreases-list_block l = 2 * l.top.height

abbrev pub decreases-list_range : goal.decreases-list_range
decreases-list_range l = 2 * l.top.height + 1

-- ---- list_range
abbrev pub invariant-list_range-loop-b : goal.invariant-list_range-loop-b
invariant-list_range-loop-b l = Stored l.initial.out l.at (flat_map (block_records l.layout l.table l.list l.top) (between l.from l.b)) l.out l.end
