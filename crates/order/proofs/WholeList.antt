-- The list of the whole root order: what it needs of each root block, and what the output holds once it is stored.
use Prim.Native.Nat.{ℕ, ◌+◌, ◌<◌}
use native.Mathlib.Omega.{arith}
use native.Mathlib.Nat.{zero-add}
use native.Mathlib.Numerals.{add-one}
use mathlib.Core.Path.{◌≡◌, ◌∙◌}
use mathlib.Core.List.{List, ◌++◌, flat_map}
use lib.ListN.{length, drop}
use lib.Seq.{sets-eq}
use Rattle.base.specs.Between.{between}
use Rattle.base.specs.Clauses.Stored.{Stored}
use Rattle.tree.specs.Shape.{Shape}
use Rattle.tree.proofs.LastRoot.{root_present}
use Rattle.order.specs.OrderList.{order_list}
use Rattle.order.specs.Clauses.Opens.{RootOf, LastRootIs}
use Rattle.order.specs.Clauses.Listed.{root_records, Room}
use Rattle.order.proofs.RootRecords.{list_blocks}
use Rattle.tree.specs.Memory.{memory_of}

module _ {s : Shape} {table : List ℕ} {b : ℕ} where
  pub last_root_of : (i : ℕ) → i < b → (heads : List ℕ) → LastRootIs s table b heads → RootOf s table (i + 1) heads
  last_root_of i l heads g =
      record { tree = g.tree; present = rw (add-one i) (root_present s (memory_of table heads) g.tree.sound i (omega (arith, g.last))) }

  module _ {size : ℕ} (q : Room (LastRootIs s table b) (order_list s table) 0 size) where
    pub whole_list : order_list s table ≡ flat_map (root_records s table) (between 0 b)
    whole_list = rw q.holds.last (list_blocks s table)

    pub list_room : Room (LastRootIs s table b) (flat_map (root_records s table) (between 0 b)) 0 size
    list_room = record { heads = q.heads; holds = q.holds; fits = rw (← whole_list) q.fits }

  -- the output once all root blocks are stored
  pub list_stored : {before after : List ℕ} {next : ℕ} → Room (LastRootIs s table b) (order_list s table) 0 (length before)
      → Stored before 0 (flat_map (root_records s table) (between 0 b)) after next
      → after ≡ order_list s table ++ drop (length (order_list s table)) before
  list_stored {before} q stored =
      (rw (← whole_list q) at stored).bytes ∙ sets-eq (order_list s table) before 0 (omega (arith, q.fits)) ∙ rw zero-add
