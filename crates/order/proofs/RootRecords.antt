-- Root blocks as order records: the list of the root order is theirs one after the other, a root block's are its puts'
-- and then its takes', and how many bytes they have.
use Prim.Native.Nat.{ℕ, suc, ◌+◌, ◌*◌}
use native.Mathlib.Omega.{arith}
use mathlib.Core.Path.{◌≡◌, refl, ap₂, ◌∙◌}
use mathlib.Core.List.{List, [], ◌∷◌, ◌++◌, map, flat_map}
use lib.ListN.{length, length-append, length-map}
use Rattle.base.specs.Between.{between}
use Rattle.base.proofs.Gather.{flat_map-append, flat_map-twice, flat_map-map, gather_measure}
use Rattle.record.specs.OrderRecords.{order_bytes}
use Rattle.record.proofs.Lengths.{order_record_length}
use Rattle.tree.specs.declared.Kind.{Kind}
use Rattle.tree.specs.declared.Kind.TheVariants.{Puts, Takes}
use Rattle.tree.specs.Shape.{Shape, root}
use Rattle.tree.specs.Memory.{Memory, block}
use Rattle.tree.specs.Order.{Placed, placed, total, in_root, last_root, block_order, root_order}
use Rattle.tree.specs.Clauses.Invariant.{count, Present, Sound}
use Rattle.tree.proofs.Levels.{level_root}
use Rattle.tree.proofs.LastRoot.{root_sound, root_present, root_length}
use Rattle.order.specs.OrderList.{order_record, order_list}
use Rattle.order.specs.declared.Listing.{Listing}
use Rattle.order.specs.declared.Subtree.{Subtree}
use Rattle.order.specs.Clauses.Opens.{BlockOf, RootOf}
use Rattle.order.specs.Clauses.Listed.{block_records, root_records}
use Rattle.order.proofs.Storing.{Parts}

-- the list, root block by root block
pub list_blocks : (s : Shape) (t : List ℕ) → order_list s t ≡ flat_map (root_records s t) (between 0 (last_root s t))
unfolding order_list root_order root_records
list_blocks s t = flat_map-twice (λ x. order_bytes (order_record x)) (block_order s t) (between 0 (last_root s t))

-- ---- a root block
abbrev pub root_of : Shape → Subtree
root_of s = record { node = 1; height = s.height }

abbrev pub listing : Kind → ℕ → Listing
listing κ b = record { kind = κ; block = b }

module _ (s : Shape) (table : List ℕ) (b : ℕ) where
  root_block_lem : (heads : List ℕ) → RootOf s table b heads → BlockOf s table (root_of s) b heads
  unfolding root
  root_block_lem heads g = record { within = record { tree = g.tree; level = level_root s }; present = g.present }

  root_kinds : root_records s table b ≡ block_records s table (listing Puts b) (root_of s) b ++ block_records s table (listing Takes b) (root_of s) b
  unfolding root_records block_records block_order in_root root
  root_kinds =
      flat_map-append (λ x. order_bytes (order_record x)) (map (placed Puts b) (in_root s table Puts b)) (map (placed Takes b) (in_root s table Takes b))
      ∙ ap₂ ◌++◌ (flat_map-map (λ x. order_bytes (order_record x)) (placed Puts b) (in_root s table Puts b))
      (flat_map-map (λ x. order_bytes (order_record x)) (placed Takes b) (in_root s table Takes b))

  pub root_parts : Parts (RootOf s table b) (root_records s table b)
      (BlockOf s table (root_of s) b) (block_records s table (listing Puts b) (root_of s) b)
      (BlockOf s table (root_of s) b) (block_records s table (listing Takes b) (root_of s) b)
  root_parts = record { first = root_block_lem; second = root_block_lem; joined = λ heads g. root_kinds }

-- ---- how many bytes
pub eight_each : (xs : List Placed) → length (flat_map (λ x. order_bytes (order_record x)) xs) ≡ 8 * length xs
unfolding flat_map
eight_each [] = refl
eight_each (x ∷ xs) =
    length-append (order_bytes (order_record x)) (flat_map (λ y. order_bytes (order_record y)) xs) ∙ omega (arith, order_record_length (order_record x), eight_each xs)

module _ (s : Shape) (m : Memory) (sound : Sound s m) where
  block_order_length : (b : ℕ) → Present s m root (suc b) → length (block_order s m.table (suc b)) + count (block s m root b) ≡ count (block s m root (suc b))
  unfolding block_order total
  block_order_length b f =
      let e : length (block_order s m.table (suc b)) ≡ length (in_root s m.table Puts (suc b)) + length (in_root s m.table Takes (suc b)) = simp (length-append, length-map) in
      omega (arith, e, root_length s m sound Puts b f, root_length s m sound Takes b f)

  -- the last root block counts all operations of the root order
  pub list_count : length (order_list s m.table) ≡ 8 * count (block s m root (last_root s m.table))
  unfolding order_list root_order
  list_count =
      let e : length (root_order s m.table) + count (block s m root 0) ≡ count (block s m root (last_root s m.table)) =
      gather_measure length refl length-append (block_order s m.table) (λ b. count (block s m root b)) 0 (last_root s m.table) (omega arith)
      (λ b p q. block_order_length b (root_present s m sound b q)) in
      omega (arith, e, eight_each (root_order s m.table), (root_sound s m sound).first)
