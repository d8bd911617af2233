-- Where the climb begins: an operation's own block in its leaf.
use Prim.Native.Nat.{ℕ, suc, ◌-◌, ◌<◌}
use native.Mathlib.Omega.{arith}
use native.Mathlib.Nat.{le_refl}
use mathlib.Core.Path.{◌≡◌, refl}
use mathlib.Core.Logic.{inr}
use mathlib.Core.List.{List}
use Rattle.tree.specs.declared.Kind.{Kind}
use Rattle.tree.specs.Shape.{Shape, processes, root, leaf_of}
use Rattle.tree.specs.Blocks.{block_at}
use Rattle.tree.specs.Memory.{Memory, head_of, block, memory_of}
use Rattle.tree.specs.Order.{total}
use Rattle.tree.specs.Clauses.Invariant.{Node, Present, Follows, AddsOne}
use Rattle.tree.proofs.Nodes.{leaf_node}
use Rattle.tree.proofs.Sound.{below_head}
use Rattle.tree.proofs.Opening.{at_most_one}
use Rattle.tree.proofs.LastRoot.{root_sound}
use Rattle.tree.proofs.Reached.{reached_low}
use Rattle.tree.proofs.Climb.{climb_leaf}
use Rattle.tree.proofs.Rank.{rank_leaf, times_leaf}
use Rattle.tree.specs.Clauses.Access.{HasPlace}
use Rattle.tree.specs.Clauses.SoundTree.{SoundTree}
use Rattle.search.specs.Clauses.Stands.{Stands}
use Rattle.search.proofs.Holding.{CountsAs, Reached, Counted}
use Rattle.tree.proofs.Places.{written_place}

module _ (s : Shape) (k : ℕ) (heads table : List ℕ) (i : ℕ) (h : Stands s heads table k i) where
  abbrev m : Memory
  m = memory_of table heads

  abbrev tree : SoundTree s heads table
  tree = h.tree

  abbrev kp : k < processes s
  kp = h.process

  node : Node s (leaf_of s k)
  node = leaf_node s k kp

  below : i < head_of m (leaf_of s k)
  below =
      let n = root_sound s m tree.sound in
      omega (arith, h.rooted, reached_low s m tree.sound tree.inner k kp (head_of m root - 1) (below_head n _ (omega (arith, n.head))))

  present : Present s m (leaf_of s k) i
  present = (tree.sound.node (leaf_of s k) node).filled i h.first below

  pub leaf_place : HasPlace s table (leaf_of s k) i
  leaf_place = written_place tree (leaf_of s k) i node (inr present)

  follows : Follows (block s m (leaf_of s k) (i - 1)) (block s m (leaf_of s k) i)
  follows =
      let e : suc (i - 1) ≡ i = omega (arith, h.first) in
      rw e at ((tree.sound.node (leaf_of s k) node).follows (i - 1) (rw e present))

  adds : AddsOne (block s m (leaf_of s k) (i - 1)) (block s m (leaf_of s k) i)
  adds =
      let e : suc (i - 1) ≡ i = omega (arith, h.first) in
      rw e at (tree.sound.adds k kp (i - 1) (rw e present))

  -- its block there holds it
  pub leaf_reached : Reached s k i heads table (leaf_of s k) i
  leaf_reached =
      let c = climb_leaf s m tree.sound k kp i h.first in
      record {
        level = 0;
        node = refl;
        holds = record {
          stands = h;
          tall = omega arith;
          some = h.first;
          below = below;
          past = c.0;
          upto = c.1;
        };
      }

  -- and its number is the block's total
  leaf_counts : (κ : Kind) → CountsAs s k i 0 table κ i (total κ (block s m (leaf_of s k) i))
  unfolding block
  leaf_counts κ =
      record {
        low = follows.rises κ;
        high = le_refl _;
        inside = λ o. omega (arith, times_leaf s m κ k i o);
        exact = λ o. omega (arith, rank_leaf s m κ k i o, at_most_one κ _ _ follows adds, o);
      }

  pub leaf_counted : (κ : Kind) → Counted s k i heads table κ (leaf_of s k) i (total κ (block_at s table (leaf_of s k) i))
  unfolding leaf_reached block
  leaf_counted κ = record { at = leaf_reached; counts = leaf_counts κ }
