-- Blocks as order records: the bytes that the functions that write them store, and the room that they need.
use Rattle.std.specs.Prelude.{ℕ, ◌+◌, ◌≤◌, length}
use mathlib.Core.List.{List, flat_map}
use Rattle.record.specs.OrderRecords.{order_bytes}
use Rattle.tree.specs.Shape.{Shape}
use Rattle.tree.specs.Order.{placed, opened, block_order}
use Rattle.order.specs.OrderList.{order_record}
use Rattle.order.specs.declared.Listing.{Listing}
use Rattle.order.specs.declared.Subtree.{Subtree}

-- the order records of y's block b
unfoldable pub block_records : Shape → List ℕ → Listing → Subtree → ℕ → List ℕ
block_records s t x y b =
    flat_map (λ o. order_bytes (order_record (placed x.kind x.block o))) (opened s t x.kind y.height y.node b)

-- the order records of root block b: its puts, then its takes
unfoldable pub root_records : Shape → List ℕ → ℕ → List ℕ
root_records s t b = flat_map (λ x. order_bytes (order_record x)) (block_order s t b)

-- for some heads P holds, and the bytes fit from an index on, where there are `size` in all
pub record Room (P : List ℕ → Type 0) (bytes : List ℕ) (at size : ℕ) : Type 0 where
  pub heads : List ℕ
  pub holds : P heads
  pub fits : at + length bytes ≤ size
