-- The root order of a table as order records.
use Rattle.std.specs.Prelude.{ℕ}
use mathlib.Core.List.{List, flat_map}
use Rattle.record.specs.declared.OrderRecord.{OrderRecord}
use Rattle.record.specs.OrderRecords.{order_bytes}
use Rattle.tree.specs.declared.Kind.{Kind}
use Rattle.tree.specs.declared.Kind.TheVariants.{Puts, Takes}
use Rattle.tree.specs.Shape.{Shape}
use Rattle.tree.specs.Order.{Placed, root_order}

-- the kinds of an order record: 1 put, 2 take
unfoldable pub kind_number : Kind → ℕ
kind_number Puts = 1
kind_number Takes = 2

unfoldable pub order_record : Placed → OrderRecord
order_record x =
    record { process = x.op.process; kind = kind_number x.kind; serial = x.op.serial; block = x.block }

-- the list: the order records of a table's root order
unfoldable pub order_list : Shape → List ℕ → List ℕ
order_list s t = flat_map (λ x. order_bytes (order_record x)) (root_order s t)
