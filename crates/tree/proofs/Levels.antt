-- Nodes by height: those of height h in a tree of height H are numbered from 2^(H − h) up to its double.
use Prim.Native.Nat.{ℕ, zero, suc, ◌*◌, ◌-◌, ◌^◌, ◌≤◌, ◌<◌}
use native.Mathlib.Omega.{arith}
use native.Mathlib.Nat.{le_refl, pow-suc, sub_self}
use mathlib.Core.Path.{◌≡◌, ap, ◌∙◌}
use lib.Pow.{pow_mono, pow_pos}
use Rattle.tree.specs.Shape.{Shape, processes, root, left_of, right_of, leaf_of}
use Rattle.tree.specs.Sides.{Side, onLeft, onRight, child_of}
use Rattle.tree.specs.Clauses.Invariant.{Inner}

pub record Level (s : Shape) (h v : ℕ) : Type 0 where
  pub tall : h ≤ s.height
  pub low : 2 ^ (s.height - h) ≤ v
  pub high : v < 2 * 2 ^ (s.height - h)

half : (s : Shape) (h : ℕ) → suc h ≤ s.height → 2 ^ (s.height - h) ≡ 2 ^ (s.height - suc h) * 2
half s h l = ap (λ (n : ℕ). 2 ^ n) (omega arith) ∙ pow-suc 2 (s.height - suc h)

module _ (s : Shape) where
  pub level_root : Level s s.height root
  unfolding root
  level_root =
      let e : 2 ^ (s.height - s.height) ≡ 1 = ap (λ (n : ℕ). 2 ^ n) (sub_self s.height) in
      record { tall = le_refl _; low = omega arith; high = omega arith }

  module _ (h v : ℕ) (l : Level s (suc h) v) where
    pub level_child : (d : Side) → Level s h (child_of d v)
    unfolding left_of right_of
    level_child onLeft = omega (arith, half s h l.tall, l.tall, l.low, l.high)
    level_child onRight = omega (arith, half s h l.tall, l.tall, l.low, l.high)

    pub level_inner : Inner s v
    unfolding processes
    level_inner =
        omega (arith, pow_pos (s.height - suc h), half s h l.tall, pow_mono {i = s.height - h} {j = s.height} (omega arith), l.low, l.high)

  pub level_leaf : (v : ℕ) → Level s 0 v → (k : ℕ) × (k < processes s) × (v ≡ leaf_of s k)
  unfolding processes leaf_of
  level_leaf v l =
      let e : 2 ^ (s.height - 0) ≡ 2 ^ s.height = ap (λ (n : ℕ). 2 ^ n) (omega arith) in
      (v - 2 ^ s.height, omega (arith, l.low, l.high), omega (arith, l.low))

  -- with two processes or more the root is no leaf
  pub root_inner : 1 ≤ s.height → Inner s root
  root_inner tall = on s.height (omega arith) level_root
    where
      on : (h : ℕ) → 1 ≤ h → Level s h root → Inner s root
      on zero a l = absurd (omega arith)
      on (suc h) a l = level_inner h root l
