-- The number that a part of some bytes holds: byte by byte, in two parts, and in a part of a part.
use Prim.Native.Nat.{ℕ, zero, suc, ◌+◌, ◌*◌, ◌^◌, ◌≤◌, ◌<◌}
use native.Mathlib.Nat.{mul_assoc, pow-succ'}
use native.Mathlib.Omega.{arith}
use mathlib.Core.Path.{◌≡◌, refl, ap, ◌∙◌}
use mathlib.Core.List.{List, [], ◌∷◌, ◌++◌}
use lib.ListN.{length, get_or, take, drop, length-drop}
use lib.Seq.{drop-cons, drop-drop, take-add, take-take, length-take-le}
use Rattle.encoding.specs.Bytes.{number_of}

-- one byte is the number itself
pub byte_number : (b : List ℕ) (at : ℕ) → at < length b → get_or b at 0 ≡ number_of (take 1 (drop at b))
unfolding number_of
byte_number b at h = rw (drop-cons b at 0 h) (omega arith)

-- the bytes after some others count for more
number_append : (xs ys : List ℕ) → number_of (xs ++ ys) ≡ number_of xs + 256 ^ length xs * number_of ys
unfolding number_of
number_append [] ys = omega arith
number_append (x ∷ xs) ys = rw (pow-succ' 256 (length xs)) (omega (arith, number_append xs ys, mul_assoc 256 (256 ^ length xs) (number_of ys)))

-- n bytes, and the m after them
pub number_parts : (n m at : ℕ) (b : List ℕ) → at + n ≤ length b
    → number_of (take n (drop at b)) + 256 ^ n * number_of (take m (drop (at + n) b)) ≡ number_of (take (n + m) (drop at b))
number_parts n m at b h =
    let e : length (take n (drop at b)) ≡ n = length-take-le n (drop at b) (simp length-drop (omega arith)) in
    rw (take-add n m (drop at b), number_append, e, drop-drop)

-- a part of a part of a list is a part of the list
pub inner_part : (m k n : ℕ) (l : List ℕ) → k + m ≤ n → take m (drop k (take n l)) ≡ take m (drop k l)
inner_part m zero n l h = take-take m n l (omega arith)
inner_part m (suc k) zero l h = absurd (omega arith)
inner_part m (suc k) (suc n) [] h = refl
inner_part m (suc k) (suc n) (x ∷ l) h = inner_part m k n l (omega arith)

pub part_of_part : (m k n at : ℕ) (b : List ℕ) → k + m ≤ n → take m (drop k (take n (drop at b))) ≡ take m (drop (at + k) b)
part_of_part m k n at b h = inner_part m k n (drop at b) h ∙ ap (take m) (drop-drop k at b)
