-- A present block and its subblocks: the node has their places, its words are small, and what the block opens to is
-- what its subblocks do, left before right.
use Prim.Native.Nat.{ℕ, zero, suc, ◌+◌, ◌-◌, ◌≤◌, ◌<◌}
use native.Mathlib.Omega.{arith}
use native.Mathlib.Numerals.{add-one}
use mathlib.Core.Path.{◌≡◌, ap, ap₂, sym, ◌∙◌}
use mathlib.Core.Logic.{inr}
use mathlib.Core.List.{List, ◌++◌, flat_map}
use lib.Pow.{pow_mono, pow_pos}
use Rattle.base.specs.Between.{between}
use Rattle.base.proofs.Gather.{flat_map-append, flat_map-twice}
use Rattle.record.specs.OrderRecords.{order_bytes}
use Rattle.tree.specs.declared.Block.{Block}
use Rattle.tree.specs.Shape.{Shape, processes}
use Rattle.tree.specs.Blocks.{block_at}
use Rattle.tree.specs.Memory.{block, memory_of}
use Rattle.tree.specs.Order.{OpId, placed, opened}
use Rattle.tree.specs.Sides.{Side, onLeft, onRight, child_of, end_of}
use Rattle.tree.specs.Clauses.Invariant.{Node, Inner, Present}
use Rattle.tree.proofs.Levels.{Level, level_child, level_inner}
use Rattle.tree.proofs.Opening.{opened_on, opened_inner, subblocks_rise, subblock_present}
use Rattle.tree.specs.Clauses.Access.{HasPlace}
use Rattle.order.specs.OrderList.{order_record}
use Rattle.order.specs.declared.Listing.{Listing}
use Rattle.order.specs.declared.Subtree.{Subtree}
use Rattle.order.specs.Clauses.Opens.{InTree, BlockOf, RangeOf}
use Rattle.order.specs.Clauses.Listed.{block_records}
use Rattle.order.proofs.Storing.{Parts}
use Rattle.tree.proofs.Places.{node_low, written_small, places_upto}

level_node : (s : Shape) (h v : ℕ) → Level s h v → Node s v
unfolding processes
level_node s h v l = omega (arith, pow_pos (s.height - h), pow_mono {i = s.height - h} {j = s.height} (omega arith), l.low, l.high)

-- the bytes of an operation's order record
abbrev bytes_of : Listing → OpId → List ℕ
bytes_of x o = order_bytes (order_record (placed x.kind x.block o))

-- y's child on side d
abbrev pub child : Side → Subtree → Subtree
child d y = record { node = child_of d y.node; height = y.height - 1 }

module _ {s : Shape} {table heads : List ℕ} {y : Subtree} (g : InTree s table y heads) where
  subtree_node : Node s y.node
  subtree_node = level_node s y.height y.node g.level

  pub subtree_low : y.node < 16
  subtree_low = node_low g.tree y.node subtree_node

module _ {s : Shape} {table heads : List ℕ} {y : Subtree} {b : ℕ} (g : BlockOf s table y b heads) where
  node : Node s y.node
  node = subtree_node g.within

  -- block 0 is absent
  pub block_first : 1 ≤ b
  block_first = on b g.present
    where
      on : (i : ℕ) → Present s (memory_of table heads) y.node i → 1 ≤ i
      on zero f = absurd (omega (arith, (g.within.tree.sound.node y.node node).first))
      on (suc i) f = omega arith

  pub block_small : b ≤ 4000
  block_small = written_small g.within.tree y.node b node (inr g.present)

  -- the node has the block's place and those before it
  pub block_place : (i : ℕ) → i ≤ b → HasPlace s table y.node i
  block_place = places_upto g.within.tree y.node b node (inr g.present)

  -- ---- above the leaves
  module _ (above : y.height ≡ 0 → ⊥) where
    -- an end of the block, and of the one before it
    abbrev end_at : Side → ℕ → ℕ
    end_at d i = end_of d (block_at s table y.node i)

    whole : suc (b - 1) ≡ b
    whole = omega (arith, block_first)

    higher : Level s (suc (y.height - 1)) y.node
    higher = let e : suc (y.height - 1) ≡ y.height = omega arith in rw e g.within.level

    later : Present s (memory_of table heads) y.node (suc (b - 1))
    later = rw whole g.present

    -- the subblocks on a side are present
    subblocks : (d : Side) → RangeOf s table (child d y) (end_at d (b - 1)) (end_at d b) heads
    unfolding block
    subblocks d =
        let q = g.within.tree in
        let inner : Inner s y.node = level_inner s (y.height - 1) y.node higher in
        record {
          within = record { tree = q; level = level_child s (y.height - 1) y.node higher d };
          rises = rw whole at (subblocks_rise q.sound y.node inner (b - 1) later d);
          present = λ i l. subblock_present q.sound y.node inner (b - 1) later d i (rw whole l);
        }

    module _ (x : Listing) where
      -- what they open to
      abbrev opened_at : Side → List OpId
      opened_at = opened_on s (memory_of table heads) x.kind (y.height - 1) y.node (b - 1)

      side : (d : Side) → flat_map (bytes_of x) (opened_at d) ≡ flat_map (block_records s table x (child d y)) (between (end_at d (b - 1)) (end_at d b))
      unfolding block_records block
      side d = rw whole (flat_map-twice (bytes_of x) (opened s table x.kind (y.height - 1) (child_of d y.node)) _)

      sides : block_records s table x y b
          ≡ flat_map (block_records s table x (child onLeft y)) (between (end_at onLeft (b - 1)) (end_at onLeft b))
          ++ flat_map (block_records s table x (child onRight y)) (between (end_at onRight (b - 1)) (end_at onRight b))
      unfolding block_records
      sides =
          let e : y.height ≡ suc (y.height - 1) = omega arith in
          ap₂ (λ (h i : ℕ). flat_map (bytes_of x) (opened s table x.kind h y.node i)) e (sym whole)
          ∙ ap (flat_map (bytes_of x)) (opened_inner s (memory_of table heads) x.kind (y.height - 1) y.node (b - 1))
          ∙ flat_map-append (bytes_of x) (opened_at onLeft) (opened_at onRight)
          ∙ ap₂ ◌++◌ (side onLeft) (side onRight)

-- a block of a range
pub range_block : {s : Shape} {table : List ℕ} {y : Subtree} {from to : ℕ} (b : ℕ) → b < to
    → (heads : List ℕ) → RangeOf s table y from to heads → BlockOf s table y (b + 1) heads
range_block b l heads g = record { within = g.within; present = rw (add-one b) (g.present b l) }

-- a block above the leaves is its left subblocks, then its right ones
module _ {s : Shape} {table : List ℕ} (x : Listing) {y : Subtree} {b : ℕ} (above : y.height ≡ 0 → ⊥) where
  pub block_parts : {old new : Block} {left right : Subtree}
      → old ≡ block_at s table y.node (b - 1) → new ≡ block_at s table y.node b → left ≡ child onLeft y → right ≡ child onRight y
      → Parts (BlockOf s table y b) (block_records s table x y b)
      (RangeOf s table left old.left new.left) (flat_map (block_records s table x left) (between old.left new.left))
      (RangeOf s table right old.right new.right) (flat_map (block_records s table x right) (between old.right new.right))
  block_parts p q l r =
      rw (p, q, l, r)
      record { first = λ heads g. subblocks g above onLeft; second = λ heads g. subblocks g above onRight; joined = λ heads g. sides g above x }
