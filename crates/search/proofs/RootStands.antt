-- Where the climb ends: the root block of an operation, and its number there.
use Prim.Native.Nat.{ℕ, suc, ◌-◌, ◌≤◌}
use native.Mathlib.Omega.{arith}
use mathlib.Core.Path.{◌≡◌, sym}
use mathlib.Core.List.{List}
use Rattle.tree.specs.declared.Kind.{Kind}
use Rattle.tree.specs.Shape.{Shape, root}
use Rattle.tree.specs.Blocks.{block_at}
use Rattle.tree.specs.Memory.{Memory, memory_of}
use Rattle.tree.specs.Order.{OpId, total, in_root, last_root}
use Rattle.tree.proofs.Names.{rank_some}
use Rattle.tree.specs.Clauses.Invariant.{Present}
use Rattle.tree.proofs.Sound.{below_head}
use Rattle.tree.proofs.Ancestors.{ancestor}
use Rattle.tree.proofs.LastRoot.{node_root, root_sound, last_most}
use Rattle.tree.proofs.Reached.{ancestor_top}
use Rattle.tree.proofs.Climb.{climb_root}
use Rattle.tree.specs.Clauses.Access.{HasPlace}
use Rattle.tree.specs.Clauses.SoundTree.{SoundTree}
use Rattle.search.specs.Clauses.Stands.{OfKind, RootBlockIs, StandsAt}
use Rattle.search.proofs.Holding.{CountsAs, HoldsAs}
use Rattle.tree.proofs.Places.{written_place}

module _ (s : Shape) (k i : ℕ) (heads table : List ℕ) (place : ℕ) (h : HoldsAs s k i s.height heads table place) where
  abbrev m : Memory
  m = memory_of table heads

  abbrev tree : SoundTree s heads table
  tree = h.stands.tree

  top : ancestor s k s.height ≡ root
  top = ancestor_top s k h.stands.process

  present : Present s m root place
  present = (root_sound s m tree.sound).filled place h.some (rw top at h.below)

  last : place ≤ last_root s table
  last = last_most s m tree.sound place present

  pub root_place : HasPlace s table root (place - 1)
  root_place =
      written_place tree root (place - 1) (node_root s)
      (below_head (root_sound s m tree.sound) (place - 1) (omega (arith, rw top at h.below)))

  pub root_block_lem : RootBlockIs s table k i place
  root_block_lem =
      let e : suc (place - 1) ≡ place = omega (arith, h.some) in
      record {
        first = h.some;
        last = last;
        own = sym (rw e at (climb_root s m tree.sound k h.stands.process (place - 1) i (rw e last) h.past (rw e h.upto)));
      }

  -- with the number there
  module _ (κ : Kind) (number : ℕ) (counts : CountsAs s k i s.height table κ place number) where
    pub root_low : total κ (block_at s table root (place - 1)) ≤ number
    root_low = rw top at counts.low

    pub root_stands : OfKind s table κ k i → StandsAt s table κ k i (record { block = place; rank = number - total κ (block_at s table root (place - 1)) })
    unfolding in_root
    root_stands o =
        let low = rw top at counts.low in
        let high = rw top at counts.high in
        let x : OpId = record { process = k; serial = i } in
        record {
          block = root_block_lem;
          rank = omega (arith, rw top at (counts.exact o));
          some = omega (arith, rw top at (counts.exact o), rw top at (rank_some x _ (counts.inside o)));
          most = omega arith;
        }
