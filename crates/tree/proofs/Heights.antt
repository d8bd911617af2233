-- Heights of nodes: by level, of a parent and its children, and the places that follow from them.
use Rattle.std.specs.Prelude.{if◌then◌else◌}
use Prim.Native.Nat.{ℕ, zero, suc, ◌+◌, ◌*◌, ◌-◌, ◌/◌, ◌^◌, ◌≤◌, ◌<◌}
use native.Mathlib.Omega.{arith}
use native.Mathlib.Decide.{dec_le, dec_lt}
use native.Mathlib.Nat.{le_refl, pow-suc}
use mathlib.Core.Path.{◌≡◌, refl, ap, ◌∙◌}
use lib.Dec.{ltb}
use lib.Pow.{pow_mono}
use borrow.Author.Tests.{lt-ltb, le-ltb}
use Rattle.base.proofs.Cases.{both}
use Rattle.tree.specs.Shape.{Shape, processes, left_of, right_of, parent_of, leaf_of, height_in, height_of, last_place}

-- the nodes from 2^d up to 2^(d + 1) have height H − d
pub height_level : (H d j : ℕ) → d ≤ H → j < 2 ^ d → height_in H (2 ^ d + j) ≡ H - d
unfolding height_in
height_level zero d j h l = omega arith
height_level (suc H) d j h l = on (dec_le d H) (λ k. height_level H d j k l)
  where
    on : Dec (d ≤ H) → (d ≤ H → height_in H (2 ^ d + j) ≡ H - d) → (if ltb (2 ^ d + j) (2 ^ suc H) then suc (height_in H (2 ^ d + j)) else 0) ≡ suc H - d
    on (yes k) ih = rw (lt-ltb (2 ^ d + j) (2 ^ suc H) (omega (arith, pow_mono {i = d} {j = H} k))) (omega (arith, ih k))
    on (no k) ih = rw (le-ltb (2 ^ d + j) (2 ^ suc H) (omega (arith, pow_mono {i = suc H} {j = d} (omega arith)))) (omega arith)

pub height_low : (H v : ℕ) → 2 ^ H ≤ v → height_in H v ≡ 0
unfolding height_in
height_low zero v h = refl
height_low (suc H) v h = rw (le-ltb v (2 ^ suc H) h)

-- a node is one higher than its children
height_child : (H v w : ℕ) → 1 ≤ v → v < 2 ^ H → 2 * v ≤ w → w ≤ 2 * v + 1 → height_in H v ≡ suc (height_in H w)
unfolding height_in
height_child zero v w f h a b = absurd (omega arith)
height_child (suc H) v w f h a b = on (dec_lt v (2 ^ H)) (λ l. height_child H v w f l a b)
  where
    on : Dec (v < 2 ^ H) → (v < 2 ^ H → height_in H v ≡ suc (height_in H w)) → height_in (suc H) v ≡ suc (height_in (suc H) w)
    on (yes l) ih = rw (lt-ltb v (2 ^ suc H) h, lt-ltb w (2 ^ suc H) (omega arith)) (ap suc (ih l))
    on (no l) ih = rw (lt-ltb v (2 ^ suc H) h, le-ltb w (2 ^ suc H) (omega arith)) (ap suc (height_low H v (omega arith)))

pub height_parent : (s : Shape) (v : ℕ) → 1 ≤ parent_of v → parent_of v < processes s → height_of s (parent_of v) ≡ suc (height_of s v)
unfolding height_of parent_of processes
height_parent s v a b = height_child s.height (v / 2) v a b (omega arith) (omega arith)

pub height_most : (H v : ℕ) → height_in H v ≤ H
unfolding height_in
height_most zero v = le_refl _
height_most (suc H) v = both (λ (x : ℕ). x ≤ suc H) (ltb v (2 ^ suc H)) (omega (arith, height_most H v)) (omega arith)

pub height_leaf : (s : Shape) (k : ℕ) → k < processes s → height_of s (leaf_of s k) ≡ 0
unfolding height_of leaf_of processes
height_leaf s k h = height_low s.height (2 ^ s.height + k) (omega arith)

pub height_root : (s : Shape) → height_of s 1 ≡ s.height
unfolding height_of
height_root s = omega (arith, height_level s.height 0 0 (omega arith) (omega arith))

-- the places of a leaf are those of a process's operations; a node has as many as its children together
pub leaf_places : (s : Shape) (k : ℕ) → k < processes s → last_place s (leaf_of s k) ≡ s.most
unfolding last_place
leaf_places s k h = rw (height_leaf s k h) (omega arith)

pub node_places : (s : Shape) (v : ℕ) → 1 ≤ v → v < processes s → last_place s v ≡ last_place s (left_of v) + last_place s (right_of v)
unfolding last_place left_of right_of processes height_of
node_places s v a b =
    let e : height_in s.height v ≡ suc (height_in s.height (2 * v)) = height_child s.height v (2 * v) a b (omega arith) (omega arith) in
    let f : height_in s.height v ≡ suc (height_in s.height (2 * v + 1)) = height_child s.height v (2 * v + 1) a b (omega arith) (omega arith) in
    let g : height_in s.height (2 * v + 1) ≡ height_in s.height (2 * v) = omega arith in
    let x : ℕ = height_in s.height (2 * v) in
    let q : s.most * 2 ^ suc x ≡ s.most * (2 ^ x * 2) = ap (λ (n : ℕ). s.most * n) (pow-suc 2 x) in
    rw (e, g) (q ∙ omega arith)
