-- How many of a process's operations the first blocks of a node above its leaf hold.
use Prim.Native.Nat.{ℕ, zero, suc, ◌≤◌, ◌<◌}
use native.Mathlib.Omega.{arith}
use mathlib.Core.Path.{◌≡◌, refl, ap, ◌∙◌}
use Rattle.tree.specs.Shape.{Shape, processes, leaf_of}
use Rattle.tree.specs.Memory.{Memory, head_of, block}
use Rattle.tree.specs.Sides.{end_of}
use Rattle.tree.specs.Clauses.Invariant.{Node, Written, Sound}
use Rattle.tree.proofs.Sound.{below_head, first_zeros, zero_end, end_below, ends_rise}
use Rattle.tree.proofs.Growth.{Same, same_end}
use Rattle.tree.proofs.Ancestors.{ancestor, side_at, child_at, ancestor_node, ancestor_inner}

-- of process k, at the node of height j above its leaf: the operations in the first i blocks. In the leaf they are i;
-- above it those at the end on the leaf's side.
pub reach : Shape → Memory → ℕ → ℕ → ℕ → ℕ
reach s m k zero i = i
reach s m k (suc j) i = reach s m k j (end_of (side_at s k j) (block s m (ancestor s k (suc j)) i))

pub reach_zero : (s : Shape) (m : Memory) (k i : ℕ) → reach s m k 0 i ≡ i
unfolding reach
reach_zero s m k i = refl

pub reach_suc : (s : Shape) (m : Memory) (k j i : ℕ) → reach s m k (suc j) i ≡ reach s m k j (end_of (side_at s k j) (block s m (ancestor s k (suc j)) i))
unfolding reach
reach_suc s m k j i = refl

module _ (s : Shape) (m : Memory) (sound : Sound s m) (k : ℕ) (kp : k < processes s) where
  -- the end towards the leaf is below the head there, so it is written
  end_towards_lem : (j : ℕ) → suc j ≤ s.height → (i : ℕ) → Written s m (ancestor s k (suc j)) i
      → end_of (side_at s k j) (block s m (ancestor s k (suc j)) i) < head_of m (ancestor s k j)
  end_towards_lem j h i p = rw (child_at s k j) at (end_below sound (side_at s k j) (ancestor s k (suc j)) (ancestor_inner s k kp j h) i p)

  written_towards : (j : ℕ) → suc j ≤ s.height → (i : ℕ) → Written s m (ancestor s k (suc j)) i
      → Written s m (ancestor s k j) (end_of (side_at s k j) (block s m (ancestor s k (suc j)) i))
  written_towards j h i p = below_head (sound.node (ancestor s k j) (ancestor_node s k kp j (omega arith))) _ (end_towards_lem j h i p)

  -- it never falls with the place
  pub reach_rises : (j : ℕ) → j ≤ s.height → (i i' : ℕ) → i ≤ i' → Written s m (ancestor s k j) i' → reach s m k j i ≤ reach s m k j i'
  unfolding reach
  reach_rises zero h i i' l p = l
  reach_rises (suc j) h i i' l p =
      reach_rises j (omega arith) _ _ (ends_rise sound (side_at s k j) (ancestor s k (suc j)) (ancestor_inner s k kp j h) i i' l p) (written_towards j h i' p)

  -- it is below the leaf's head
  reach_low : (j : ℕ) → j ≤ s.height → (i : ℕ) → i < head_of m (ancestor s k j) → reach s m k j i < head_of m (leaf_of s k)
  unfolding reach
  reach_low zero h i p = p
  reach_low (suc j) h i p =
      reach_low j (omega arith) _ (end_towards_lem j h i (below_head (sound.node (ancestor s k (suc j)) (ancestor_node s k kp (suc j) h)) i p))

  pub reach_below : (j : ℕ) → suc j ≤ s.height → (i : ℕ) → Written s m (ancestor s k (suc j)) i → reach s m k (suc j) i < head_of m (leaf_of s k)
  reach_below j h i p = rw (reach_suc s m k j i) (reach_low j (omega arith) _ (end_towards_lem j h i p))

  pub reach_start : (j : ℕ) → j ≤ s.height → reach s m k j 0 ≡ 0
  unfolding reach
  reach_start zero h = refl
  reach_start (suc j) h =
      ap (reach s m k j) (ap (end_of (side_at s k j)) (first_zeros (sound.node (ancestor s k (suc j)) (ancestor_node s k kp (suc j) h))) ∙ zero_end (side_at s k j))
      ∙ reach_start j (omega arith)

  -- where written blocks stay, it stays
  pub reach_stays : (n : Memory) → ((u i : ℕ) → Node s u → Written s m u i → Same (block s n u i) (block s m u i))
      → (j : ℕ) → j ≤ s.height → (i : ℕ) → Written s m (ancestor s k j) i → reach s n k j i ≡ reach s m k j i
  unfolding reach
  reach_stays n stays zero h i p = refl
  reach_stays n stays (suc j) h i p =
      ap (reach s n k j) (same_end (side_at s k j) (stays (ancestor s k (suc j)) i (ancestor_node s k kp (suc j) h) p))
      ∙ reach_stays n stays j (omega arith) _ (written_towards j h i p)
