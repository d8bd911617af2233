-- A leaf's block as order records: one, if its total of the kind is above that of the block before it, else none.
use Prim.Native.Nat.{ℕ, ◌-◌, ◌≤◌, ◌<◌}
use native.Mathlib.Omega.{arith}
use mathlib.Core.Path.{◌≡◌}
use mathlib.Core.Bool.{true, false}
use mathlib.Core.List.{List, [], flat_map, append-nil}
use Rattle.record.specs.declared.OrderRecord.{OrderRecord}
use Rattle.record.specs.OrderRecords.{order_bytes}
use Rattle.tree.specs.Shape.{Shape, processes, leaf_of}
use Rattle.tree.specs.Memory.{block}
use Rattle.tree.specs.Order.{opened, placed}
use Rattle.tree.proofs.Levels.{level_leaf}
use Rattle.order.specs.OrderList.{kind_number, order_record}
use Rattle.order.specs.declared.Listing.{Listing}
use Rattle.order.specs.Clauses.Opens.{leaf_at, adds_to, BlockOf}
use Rattle.order.specs.Clauses.Listed.{block_records}
use Rattle.order.proofs.Subblocks.{subtree_low}

-- the record of the operation at place b of a leaf
abbrev pub leaf_record : Shape → Listing → ℕ → ℕ → OrderRecord
leaf_record s x v b = record { process = v - processes s; kind = kind_number x.kind; serial = b; block = x.block }

module _ {s : Shape} {table heads : List ℕ} {v b : ℕ} (g : BlockOf s table (leaf_at v) b heads) where
  -- the number of the leaf's process is not below 0, and fits in a byte
  pub leaf_process : processes s ≤ v
  unfolding leaf_of
  leaf_process = let k = level_leaf s v g.within.level in omega (arith, k.2)

  pub leaf_small : v < 16
  leaf_small = subtree_low g.within

module _ (s : Shape) (table : List ℕ) (x : Listing) (v b : ℕ) where
  pub leaf_none : adds_to s table x.kind v b ≡ false → block_records s table x (leaf_at v) b ≡ []
  unfolding block_records opened flat_map block
  leaf_none e = rw e

  pub leaf_one : adds_to s table x.kind v b ≡ true → block_records s table x (leaf_at v) b ≡ order_bytes (leaf_record s x v b)
  unfolding block_records opened flat_map block placed order_record
  leaf_one e = rw e (append-nil _)
