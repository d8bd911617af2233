-- The climb by node numbers: what each level of it needs and gives, at the root and below it, without and with the
-- count.
use Prim.Native.Nat.{ℕ, suc, ◌+◌, ◌-◌, ◌/◌, ◌≤◌, ◌<◌}
use native.Mathlib.Omega.{arith}
use mathlib.Core.Path.{◌≡◌, sym, ap, subst, ◌∙◌}
use mathlib.Core.List.{List}
use Rattle.tree.specs.declared.Block.{Block}
use Rattle.tree.specs.declared.Kind.{Kind}
use Rattle.tree.specs.declared.Kind.TheVariants.{Puts, Takes}
use Rattle.tree.specs.Shape.{Shape, root, parent_of}
use Rattle.tree.specs.Blocks.{block_at}
use Rattle.tree.specs.Memory.{block, memory_of}
use Rattle.tree.specs.Order.{total}
use Rattle.tree.specs.Clauses.Invariant.{count}
use Rattle.tree.proofs.Ancestors.{ancestor, ancestor_node, root_height, not_root}
use Rattle.tree.specs.Clauses.Access.{HasPlace}
use Rattle.tree.proofs.Places.{places_most}
use Rattle.search.specs.Clauses.Stands.{OfKind, RootBlockIs, StandsAt}
use Rattle.search.specs.Clauses.Climbing.{Ascends, FirstAbove, Beside, beside_of}
use Rattle.search.proofs.Holding.{CountsAs, HoldsAs, Reached, Counted}
use Rattle.search.proofs.Ascent.{Above, ascends, above}
use Rattle.search.proofs.RootStands.{root_place, root_block_lem, root_low, root_stands}

total_most : (κ : Kind) (b : Block) → total κ b ≤ count b
unfolding total
total_most Puts b = omega arith
total_most Takes b = omega arith

module _ {s : Shape} {k i : ℕ} {heads table : List ℕ} {v place : ℕ} (r : Reached s k i heads table v place) where
  pub node_first : 1 ≤ v
  node_first = rw r.node (ancestor_node s k r.holds.stands.process r.level r.holds.tall).first

  -- at the root, which is node 1
  module _ (top : v ≡ 1) where
    top_level : r.level ≡ s.height
    top_level = root_height s k r.holds.stands.process r.level r.holds.tall (sym r.node ∙ top)

    at_top : HoldsAs s k i s.height heads table place
    at_top = subst (λ (l : ℕ). HoldsAs s k i l heads table place) top_level r.holds

    pub top_place : HasPlace s table 1 (place - 1)
    unfolding root
    top_place = root_place s k i heads table place at_top

    pub top_block : RootBlockIs s table k i place
    top_block = root_block_lem s k i heads table place at_top

  -- below it
  module _ (ne : v ≡ 1 → ⊥) where
    low : suc r.level ≤ s.height
    low = not_root s k r.holds.stands.process r.level r.holds.tall (λ e. ne (r.node ∙ e))

    pub node_ascends : Ascends s heads table v place
    node_ascends = ascends s k i r.level heads table place r.holds low r.node

    module _ {b : ℕ} (f : FirstAbove s heads table v place b) where
      node_above : Above s k i r.level heads table v place b
      node_above = above s k i r.level heads table place r.holds low r.node b f

      pub node_beside : Beside s table v b
      node_beside = node_above.beside

      pub climbs : Reached s k i heads table (v / 2) b
      unfolding parent_of
      climbs = record { level = suc r.level; node = ap parent_of r.node; holds = node_above.holds }

module _ {s : Shape} {k i : ℕ} {heads table : List ℕ} {κ : Kind} {v place number : ℕ} (c : Counted s k i heads table κ v place number) where
  pub number_small : number < 65536
  unfolding block
  number_small =
      let h = c.at.holds in
      let tree = h.stands.tree in
      let node = ancestor s k c.at.level in
      omega (
        arith,
        c.counts.high,
        total_most κ (block s (memory_of table heads) node place),
        (tree.sound.node node (ancestor_node s k h.stands.process c.at.level h.tall)).within place,
        places_most s tree.tall tree.few node,
      )

  module _ (top : v ≡ 1) where
    top_counts : CountsAs s k i s.height table κ place number
    top_counts = subst (λ (l : ℕ). CountsAs s k i l table κ place number) (top_level c.at top) c.counts

    pub top_low : total κ (block_at s table 1 (place - 1)) ≤ number
    unfolding root
    top_low = root_low s k i heads table place (at_top c.at top) κ number top_counts

    pub top_stands : OfKind s table κ k i → StandsAt s table κ k i (record { block = place; rank = number - total κ (block_at s table 1 (place - 1)) })
    unfolding root
    top_stands = root_stands s k i heads table place (at_top c.at top) κ number top_counts

  pub climbs_counted : (v ≡ 1 → ⊥) → {b : ℕ} → FirstAbove s heads table v place b → Counted s k i heads table κ (v / 2) b (number + beside_of s table κ v b)
  unfolding climbs
  climbs_counted ne f = record { at = climbs c.at ne f; counts = (node_above c.at ne f).counts c.counts }
