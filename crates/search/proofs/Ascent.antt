-- One level up from a block that holds an operation: what finding the parent's block needs, and what holds of the block
-- found.
use Prim.Native.Nat.{ℕ, zero, suc, ◌+◌, ◌-◌, ◌%◌, ◌≤◌, ◌<◌}
use native.Mathlib.Omega.{arith}
use mathlib.Core.Path.{◌≡◌, refl}
use mathlib.Core.Logic.{inr}
use mathlib.Core.List.{List}
use borrow.Author.Tests.{eq-eqb, ne_eqb}
use Rattle.tree.specs.declared.Kind.{Kind}
use Rattle.tree.specs.Shape.{Shape, processes, left_of, right_of, parent_of}
use Rattle.tree.specs.Memory.{Memory, head_of, block, memory_of}
use Rattle.tree.specs.Order.{OpId}
use Rattle.tree.specs.Sides.{Side, onLeft, onRight}
use Rattle.tree.specs.Clauses.Invariant.{Node, Inner, Present, Written, Sound}
use Rattle.tree.proofs.Nodes.{inner_node}
use Rattle.tree.proofs.Sound.{below_head, first_zeros, zero_end, ends_rise}
use Rattle.tree.proofs.Ancestors.{ancestor, side_at, child_at, ancestor_node, ancestor_inner}
use Rattle.tree.proofs.OpenedBetween.{ancestor_level}
use Rattle.tree.proofs.Climb.{end_towards, climb_step}
use Rattle.tree.proofs.Rank.{times_step}
use Rattle.tree.specs.Clauses.Access.{HasPlace}
use Rattle.tree.specs.Layout.{part_of}
use Rattle.tree.specs.Clauses.SoundTree.{SoundTree}
use Rattle.search.specs.Clauses.Searched.{Reaches, First}
use Rattle.search.specs.Clauses.Climbing.{Ascends, FirstAbove, Beside, beside_of}
use Rattle.search.proofs.Holding.{CountsAs, HoldsAs}
use Rattle.search.proofs.Words.{word_of, side_cases, side_word, part_fits, end_word}
use Rattle.tree.proofs.Places.{node_part_lem, node_headed, written_place}
use Rattle.search.proofs.ChildReads.{end_place}
use Rattle.search.proofs.HeldBelow.{end_reaches}
use Rattle.search.proofs.NumbersUp.{beside_total, number_low, number_high, number_rank}
use Rattle.tree.specs.Layout.{block_words}

-- Block b of the parent of v, the node of height j, holds the operation that v's block `place` holds. Its number there
-- is larger by what is beside it.
pub record Above (s : Shape) (k i j : ℕ) (heads table : List ℕ) (v place b : ℕ) : Type 0 where
  pub beside : Beside s table v b
  pub holds : HoldsAs s k i (suc j) heads table b
  pub counts : {κ : Kind} {number : ℕ} → CountsAs s k i j table κ place number → CountsAs s k i (suc j) table κ b (number + beside_of s table κ v b)

module _ (s : Shape) (k i j : ℕ) (heads table : List ℕ) (place : ℕ) (h : HoldsAs s k i j heads table place) (low : suc j ≤ s.height) where
  abbrev m : Memory
  m = memory_of table heads

  abbrev tree : SoundTree s heads table
  tree = h.stands.tree

  abbrev sound : Sound s m
  sound = tree.sound

  abbrev kp : k < processes s
  kp = h.stands.process

  abbrev here : ℕ
  here = ancestor s k j

  abbrev up : ℕ
  up = ancestor s k (suc j)

  abbrev side : Side
  side = side_at s k j

  here_node : Node s here
  here_node = ancestor_node s k kp j h.tall

  inner : Inner s up
  inner = ancestor_inner s k kp j low

  up_node : Node s up
  up_node = inner_node s up inner

  -- the ends towards the leaf, up to the parent's head
  ends : Reaches (part_of s table up) (word_of side) (head_of m up - 1) place
  ends =
      let n = sound.node up up_node in
      let last : Written s m up (head_of m up - 1) = below_head n _ (omega (arith, n.head)) in
      record {
        known = small side;
        fits = part_fits s table up (head_of m up - 1) (written_place tree up _ up_node last);
        start = rw (end_word s m up 0 side, first_zeros n, zero_end side) h.some;
        rises = λ a b l u.
            rw (end_word s m up a side, end_word s m up b side)
            (ends_rise sound side up inner a b l (below_head n b (omega (arith, n.head))));
        reached = rw (end_word s m up (head_of m up - 1) side)
            (end_reaches s m sound k kp i h.stands.rooted j low place h.some h.below h.past);
      }
    where
      small : (d : Side) → word_of d < block_words
      small onLeft = omega arith
      small onRight = omega arith

  pub ascends : {v : ℕ} → v ≡ ancestor s k j → Ascends s heads table v place
  unfolding parent_of head_of
  ascends e =
      rw e
      (record {
        here = written_place tree here place here_node (inr ((sound.node here here_node).filled place h.some h.below));
        above = node_part_lem tree up up_node;
        headed = node_headed tree up up_node;
        head = (sound.node up up_node).head;
        ends = rw (side_word here) ends;
      })

  -- ---- the block that is found
  module _ (b : ℕ)
      (found : First (part_of s table (ancestor s k (suc j))) (word_of (side_at s k j)) (head_of (memory_of table heads) (ancestor s k (suc j)) - 1) place
      (suc b))
    where
      past : end_towards s m k j b < place
      past = let e : suc b - 1 ≡ b = omega arith in rw (e, end_word s m up b side) at found.past

      upto : place ≤ end_towards s m k j (suc b)
      upto = rw (end_word s m up (suc b) side) at found.upto

      below : suc b < head_of m up
      below = omega (arith, found.most)

      has : Present s m up (suc b)
      has = (sound.node up up_node).filled (suc b) (omega arith) below

      up_written : (a : ℕ) → a ≤ suc b → Written s m up a
      up_written a l = below_head (sound.node up up_node) a (omega (arith, below))

      up_place : (a : ℕ) → a ≤ suc b → HasPlace s table up a
      up_place a l = written_place tree up a up_node (up_written a l)

      besides : Beside s table here (suc b)
      unfolding parent_of left_of right_of
      besides =
          record {
            some = omega arith;
            before = up_place (suc b - 1) (omega arith);
            here = up_place (suc b) (omega arith);
            right = λ e. let f : here + 1 ≡ right_of up = omega arith in rw f (end_place s heads table tree up inner onRight (suc b - 1) (up_written (suc b - 1) (omega arith)));
            left = λ e. let f : here - 1 ≡ left_of up = omega arith in rw f (end_place s heads table tree up inner onLeft (suc b) (up_written (suc b) (omega arith)));
          }

      up_holds : HoldsAs s k i (suc j) heads table (suc b)
      up_holds =
          let reaches = climb_step s m sound k kp j low b place has past upto i h.past h.upto in
          let e : suc b - 1 ≡ b = omega arith in
          record {
            stands = h.stands;
            tall = low;
            some = omega arith;
            below = below;
            past = rw e reaches.0;
            upto = reaches.1;
          }

      module _ {κ : Kind} {number : ℕ} (counts : CountsAs s k i j table κ place number) where
        beside_is : beside_of s table κ here (suc b) ≡ beside_total s m κ up b side
        unfolding beside_of parent_of left_of right_of block
        beside_is =
            side_cases (λ d. beside_of s table κ here (suc b) ≡ beside_total s m κ up b d) here
            (λ e.
            let f : here + 1 ≡ right_of up = omega arith in
            let g : suc b - 1 ≡ b = omega arith in
            rw (eq-eqb (here % 2) 0 e, f, g) refl)
            (λ e. let f : here - 1 ≡ left_of up = omega arith in rw (ne_eqb (here % 2) 0 e, f) refl)

        -- the operation's number in it is larger by what is beside it
        up_counts : CountsAs s k i (suc j) table κ (suc b) (number + beside_of s table κ here (suc b))
        unfolding block
        up_counts =
            let level = ancestor_level s k kp (suc j) low in
            let e : suc b - 1 ≡ b = omega arith in
            let child = child_at s k j in
            let x : OpId = record { process = k; serial = i } in
            record {
              low = rw e (omega (arith, beside_is, counts.low, rw child at (number_low s m sound κ j up level b has side place past upto)));
              high = omega (arith, beside_is, counts.high, rw child at (number_high s m sound κ j up level b has side place past upto));
              inside = λ o. times_step s m sound κ j up level b has x side place past upto (rw child (counts.inside o));
              exact = λ o.
                  rw e
                  (omega (
                    arith,
                    beside_is,
                    counts.exact o,
                    rw child at (number_rank s m sound κ j up level b has side place past upto x (rw child (counts.inside o))),
                  ));
            }

  -- all of it, of the block that was found
  pub above : {v : ℕ} → v ≡ ancestor s k j → (b : ℕ) → FirstAbove s heads table v place b → Above s k i j heads table v place b
  unfolding parent_of head_of
  above e zero f = absurd (omega (arith, f.some))
  above e (suc b) f =
      let g = rw (e, side_word here) at f in
      rw e (record { beside = besides b g; holds = up_holds b g; counts = up_counts b g })
