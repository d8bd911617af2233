-- `list::write_order` meets its contract. The loop's invariant: root blocks 1 to b are stored.
use mathlib.Core.List.{flat_map}
use Rattle.base.specs.Between.{between}
use Rattle.base.specs.Clauses.Stored.{Stored}
use Rattle.order.specs.Clauses.Listed.{root_records}
use Rattle.order.proofs.list.write_order.Given as goal

abbrev pub invariant-loop-b : goal.invariant-loop-b
invariant-loop-b l = Stored l.initial.out 0 (flat_map (root_records l.layout l.table) (between 0 l.b)) l.out l.end
