-- The invariant of the numbers: they rise with place, a block's number is above those of all blocks up to its ends, and
-- none is past that of the last record. It stands apart from the memory invariant, which says of numbers only that an
-- absent place and block 0 have 0.
use Prim.Native.Nat.{ℕ, zero, suc, ◌≤◌, ◌<◌}
use native.Mathlib.Omega.{arith}
use native.Mathlib.Decide.{ℕ_discrete}
use mathlib.Core.Path.{◌≡◌, ap}
use mathlib.Core.Logic.{◌⊎◌, inl, inr}
use Rattle.tree.specs.declared.Block.{Block}
use Rattle.tree.specs.Shape.{Shape}
use Rattle.tree.specs.Memory.{Memory, head_of, block}
use Rattle.tree.specs.Sides.{Side, child_of, end_of}
use Rattle.tree.specs.Clauses.Invariant.{Node, Inner, Present, Written, zeros, Sound}
use Rattle.tree.proofs.Nodes.{child_node, inner_node}
use Rattle.tree.proofs.Sound.{below_head, before_written, end_below, first_zeros}
use Rattle.tree.proofs.Growth.{Fresh, Grows, same_end}
use Rattle.tree.proofs.Cleared.{cleared, cleared_block, cleared_count}
use Rattle.steps.proofs.WrittenNumbers.{WritesNumber}

pub record NumbersSound (s : Shape) (last : ℕ) (m : Memory) : Type 0 where
  pub past : (u i : ℕ) → Node s u → Written s m u i → (block s m u i).number ≤ last
  pub rises : (u i : ℕ) → Node s u → Present s m u (suc i) → (block s m u i).number < (block s m u (suc i)).number
  pub above : (d : Side) (v i j : ℕ) → Inner s v → Present s m v (suc i) → j ≤ end_of d (block s m v (suc i)) → (block s m (child_of d v) j).number < (block s m v (suc i)).number

-- ---- the start
pub start_numbers : (s : Shape) → NumbersSound s 0 (cleared s)
unfolding zeros
start_numbers s =
    record {
      past = λ u i nu p. rw (cleared_block s u i) (omega arith);
      rises = λ u i nu f. absurd (omega (arith, cleared_count s u (suc i)));
      above = λ d v i j iv f. absurd (omega (arith, cleared_count s v (suc i)));
    }

-- ---- a record whose number is above all before it
module _ (s : Shape) (last number : ℕ) (later : last < number) (m n : Memory) (sound : Sound s m) (g : Grows s m n) (w : WritesNumber s number m n) (old : NumbersSound s last m) where
  -- what was written has a number below it
  old_below : (u i : ℕ) → Node s u → Written s m u i → (block s n u i).number < number
  old_below u i nu p = omega (arith, w.stays u i nu p, old.past u i nu p)

  past_keeps : (u i : ℕ) → Node s u → Written s n u i → (block s n u i).number ≤ number
  past_keeps u i nu (inl e) = omega (arith, old_below u i nu (inl e))
  past_keeps u i nu (inr f) = on (w.fresh u i nu f)
    where
      on : Present s m u i ⊎ ((block s n u i).number ≡ number) → (block s n u i).number ≤ number
      on (inl p) = omega (arith, old_below u i nu (inr p))
      on (inr e) = omega (arith, e)

  -- before a present block all is written, and so is all up to its ends
  place_before : (u i : ℕ) → Node s u → Present s n u (suc i) → Written s m u i
  place_before u i nu f = on (g.fresh u i nu f)
    where
      on : Present s m u (suc i) ⊎ Fresh s m u i (block s n u (suc i)) → Written s m u i
      on (inl h) = before_written (sound.node u nu) i h
      on (inr h) = below_head (sound.node u nu) i (omega (arith, h.place))

  end_before : (d : Side) (v i j : ℕ) → Inner s v → Present s n v (suc i) → j ≤ end_of d (block s n v (suc i)) → Written s m (child_of d v) j
  end_before d v i j iv f l = below_head (sound.node (child_of d v) (child_node s d v iv)) j (on (g.fresh v i (inner_node s v iv) f))
    where
      on : Present s m v (suc i) ⊎ Fresh s m v i (block s n v (suc i)) → j < head_of m (child_of d v)
      on (inl h) = omega (arith, l, same_end d (g.stays v (suc i) (inner_node s v iv) (inr h)), end_below sound d v iv (suc i) (inr h))
      on (inr h) = omega (arith, l, (h.joins iv).below d)

  rises_keeps : (u i : ℕ) → Node s u → Present s n u (suc i) → (block s n u i).number < (block s n u (suc i)).number
  rises_keeps u i nu f = on (w.fresh u (suc i) nu f)
    where
      on : Present s m u (suc i) ⊎ ((block s n u (suc i)).number ≡ number) → (block s n u i).number < (block s n u (suc i)).number
      on (inl p) = omega (arith, w.stays u i nu (place_before u i nu f), w.stays u (suc i) nu (inr p), old.rises u i nu p)
      on (inr e) = omega (arith, e, old_below u i nu (place_before u i nu f))

  above_keeps : (d : Side) (v i j : ℕ) → Inner s v → Present s n v (suc i) → j ≤ end_of d (block s n v (suc i)) → (block s n (child_of d v) j).number < (block s n v (suc i)).number
  above_keeps d v i j iv f l = on (w.fresh v (suc i) nv f)
    where
      nv : Node s v
      nv = inner_node s v iv

      nc : Node s (child_of d v)
      nc = child_node s d v iv

      on : Present s m v (suc i) ⊎ ((block s n v (suc i)).number ≡ number) → (block s n (child_of d v) j).number < (block s n v (suc i)).number
      on (inl p) =
          let low : j ≤ end_of d (block s m v (suc i)) = omega (arith, l, same_end d (g.stays v (suc i) nv (inr p))) in
          omega (arith, w.stays (child_of d v) j nc (end_before d v i j iv f l), w.stays v (suc i) nv (inr p), old.above d v i j iv p low)
      on (inr e) = omega (arith, e, old_below (child_of d v) j nc (end_before d v i j iv f l))

  pub numbers_keep : NumbersSound s number n
  numbers_keep = record { past = past_keeps; rises = rises_keeps; above = above_keeps }

-- ---- what a reader is told
module _ (s : Shape) (last : ℕ) (m : Memory) (sound : Sound s m) (numbers : NumbersSound s last m) where
  pub first_number : (u : ℕ) → Node s u → (block s m u 0).number ≡ 0
  unfolding zeros
  first_number u nu = ap (λ (b : Block). b.number) (first_zeros (sound.node u nu))

  -- any two places
  pub places_rise : (u i j : ℕ) → Node s u → i < j → Present s m u j → (block s m u i).number < (block s m u j).number
  places_rise u i zero nu l f = absurd (omega arith)
  places_rise u i (suc j) nu l f = on (ℕ_discrete i j) (before_written (sound.node u nu) j f) (λ h p. places_rise u i j nu h p)
    where
      on : Dec (i ≡ j) → Written s m u j → (i < j → Present s m u j → (block s m u i).number < (block s m u j).number) → (block s m u i).number < (block s m u (suc j)).number
      on (yes e) p ih = rw e (numbers.rises u j nu f)
      on (no e) (inl z) ih = absurd (omega arith)
      on (no e) (inr p) ih = omega (arith, ih (omega arith) p, numbers.rises u j nu f)

  -- any block of a node above the leaves, and any place up to its end
  pub ends_below : (d : Side) (v i j : ℕ) → Inner s v → Present s m v i → j ≤ end_of d (block s m v i) → (block s m (child_of d v) j).number < (block s m v i).number
  ends_below d v zero j iv f l = absurd (omega (arith, (sound.node v (inner_node s v iv)).first))
  ends_below d v (suc i) j iv f l = numbers.above d v i j iv f l
