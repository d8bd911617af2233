-- The nodes above a process's leaf.
use Prim.Native.Nat.{ℕ, zero, suc, ◌*◌, ◌-◌, ◌^◌, ◌≤◌, ◌<◌}
use native.Mathlib.Omega.{arith}
use native.Mathlib.Decide.{dec_lt, ℕ_discrete}
use native.Mathlib.Nat.{le_refl, pow-suc, sub_self}
use mathlib.Core.Path.{◌≡◌, ap, ◌∙◌}
use lib.Pow.{pow_mono, pow_pos}
use Rattle.tree.specs.Shape.{Shape, processes, parent_of, leaf_of}
use Rattle.tree.specs.Sides.{Side, child_of}
use Rattle.tree.specs.Clauses.Invariant.{Node, Inner}
use Rattle.tree.proofs.Nodes.{side_of, child_of_parent}

-- the node of height j above the leaf of process k
abbrev pub ancestor : Shape → ℕ → ℕ → ℕ
ancestor s k zero = leaf_of s k
ancestor s k (suc j) = parent_of (ancestor s k j)

-- the side on which the ancestor of height j is a child
abbrev pub side_at : Shape → ℕ → ℕ → Side
side_at s k j = side_of (ancestor s k j)

pub child_at : (s : Shape) (k j : ℕ) → child_of (side_at s k j) (ancestor s k (suc j)) ≡ ancestor s k j
child_at s k j = child_of_parent (ancestor s k j)

module _ (s : Shape) (k : ℕ) (kp : k < processes s) where
  half : (j : ℕ) → suc j ≤ s.height → 2 ^ (s.height - j) ≡ 2 ^ (s.height - suc j) * 2
  half j h = ap (λ (n : ℕ). 2 ^ n) (omega arith) ∙ pow-suc 2 (s.height - suc j)

  range : (j : ℕ) → j ≤ s.height → (2 ^ (s.height - j) ≤ ancestor s k j) × (ancestor s k j < 2 * 2 ^ (s.height - j))
  unfolding leaf_of processes parent_of
  range zero h = let e : 2 ^ (s.height - 0) ≡ 2 ^ s.height = ap (λ (n : ℕ). 2 ^ n) (omega arith) in omega arith
  range (suc j) h = omega (arith, half j h, range j (omega arith))

  pub ancestor_root : ancestor s k s.height ≡ 1
  ancestor_root =
      let e : 2 ^ (s.height - s.height) ≡ 1 = ap (λ (n : ℕ). 2 ^ n) (sub_self s.height) in
      omega (arith, range s.height (le_refl _))

  pub ancestor_node : (j : ℕ) → j ≤ s.height → Node s (ancestor s k j)
  unfolding processes
  ancestor_node j h = omega (arith, pow_pos (s.height - j), pow_mono {i = s.height - j} {j = s.height} (omega arith), range j h)

  pub ancestor_inner : (j : ℕ) → suc j ≤ s.height → Inner s (ancestor s k (suc j))
  unfolding processes
  ancestor_inner j h =
      omega (arith, pow_pos (s.height - suc j), half j h, pow_mono {i = s.height - j} {j = s.height} (omega arith), range (suc j) h)

  -- only the highest is the root
  below_root_lem : (j : ℕ) → suc j ≤ s.height → 2 ≤ ancestor s k j
  below_root_lem j h = omega (arith, pow_pos (s.height - suc j), half j h, range j (omega arith))

  pub root_height : (j : ℕ) → j ≤ s.height → ancestor s k j ≡ 1 → j ≡ s.height
  root_height j h e = on (dec_lt j s.height)
    where
      on : Dec (j < s.height) → j ≡ s.height
      on (yes l) = absurd (omega (arith, below_root_lem j l))
      on (no l) = omega arith

  pub not_root : (j : ℕ) → j ≤ s.height → (ancestor s k j ≡ 1 → ⊥) → suc j ≤ s.height
  not_root j h ne = on (ℕ_discrete j s.height)
    where
      on : Dec (j ≡ s.height) → suc j ≤ s.height
      on (yes e) = absurd (ne (rw e ancestor_root))
      on (no e) = omega arith
