-- The heights and sums that the layout is computed from, in the form in which code has them.
use Prim.Native.Nat.{ℕ, zero, suc, ◌+◌, ◌*◌, ◌-◌, ◌^◌, ◌≤◌, ◌<◌}
use native.Mathlib.Omega.{arith}
use native.Mathlib.Nat.{mul-le-mul_left, mul-le-mul_right, le_trans, eq-or-lt_of_le, not-suc-le-zero}
use native.Mathlib.Numerals.{add-one}
use mathlib.Core.Path.{◌≡◌, refl}
use mathlib.Core.Logic.{⊎_elim}
use mathlib.Core.List.{List, ◌∷◌}
use lib.ListN.{length, get_or, set}
use lib.Seq.{get_or-set_same, get_or-set_other}
use borrow.Author.Tests.{lt-ltb}
use Rattle.tree.specs.Shape.{Shape, height_in}
use Rattle.tree.specs.Layout.{part_words, part_start}

pub product_most : (a b m n : ℕ) → a ≤ m → b ≤ n → a * b ≤ m * n
product_most a b m n h k = le_trans (mul-le-mul_left a k) (mul-le-mul_right n h)

-- for at most 8 processes and at most 500 operations of each
pub places_most : (h p l : ℕ) → h ≤ 3 → p ≤ 8 → l ≤ 500 → ((h + 1) * p ≤ 32) × ((h + 1) * p * l ≤ 16000)
places_most h p l a b c =
    let e : (h + 1) * p ≤ 32 = product_most (h + 1) p 4 8 (omega arith) b in
    (e, product_most ((h + 1) * p) l 32 500 e c)

-- a number up to 3 that is none of the first three
pub three : (k : ℕ) → k ≤ 3 → (k ≡ 0 → ⊥) → (k ≡ 1 → ⊥) → (k ≡ 2 → ⊥) → k ≡ 3
three k h a b c = omega arith

-- the height of a node above the leaves, and of a leaf
pub height_above : (h v : ℕ) → (h ≡ 0 → ⊥) → v < 2 ^ h → height_in h v ≡ height_in (h - 1) v + 1
unfolding height_in
height_above zero v ne l = absurd (ne refl)
height_above (suc h) v ne l = let e : suc h - 1 ≡ h = omega arith in rw (lt-ltb v (2 ^ suc h) l, e) (omega arith)

pub height_zero : (h v : ℕ) → h ≡ 0 → height_in h v ≡ 0
unfolding height_in
height_zero h v e = rw e

-- one start more: those up to v are right, and node v's words are added
pub start_more :
    (s : Shape) (l : List ℕ) (v w : ℕ)
    → v + 1 < length l
    → w ≡ part_words s v
    → ((u : ℕ) → u ≤ v → get_or l u 0 ≡ part_start s u)
    → (u : ℕ)
    → u ≤ v + 1
    → get_or (set l (v + 1) (get_or l v 0 + w)) u 0 ≡ part_start s u
unfolding part_start
start_more s l v w fits e all u k =
    ⊎_elim
    (λ q. rw (q, get_or-set_same l (v + 1) (get_or l v 0 + w) 0 fits, add-one v, all v (omega arith), e))
    (λ q. rw (get_or-set_other l (v + 1) u (get_or l v 0 + w) 0 (omega arith)) (all u (omega arith)))
    (eq-or-lt_of_le k)

-- before any is computed, there is that of node 0
pub first_start : (s : Shape) (l : List ℕ) (u : ℕ) → u ≤ 0 → get_or (0 ∷ l) u 0 ≡ part_start s u
unfolding part_start
first_start s l zero h = refl
first_start s l (suc u) h = absurd (not-suc-le-zero h)
