-- A list in which n elements from index a on are replaced: the new elements stand there, and all others stay.
use Prim.Native.Nat.{ℕ, zero, suc, ◌+◌, ◌-◌, ◌≤◌}
use native.Mathlib.Omega.{arith}
use native.Mathlib.Nat.{suc-add, zero-add}
use mathlib.Core.Path.{◌≡◌, ap, ◌∙◌}
use mathlib.Core.List.{List, [], ◌∷◌, ◌++◌, append_assoc}
use lib.ListN.{length, take, drop, length-append, length-take, length-drop}
use lib.Seq.{take-append-le, take_at, drop_at, drop-append-add, drop-drop, take-take, length-take-le, take-nil}

drop_take : (a n : ℕ) (l : List ℕ) → drop a (take (a + n) l) ≡ take n (drop a l)
drop_take zero n l = rw zero-add
drop_take (suc a) n [] = rw (suc-add, take-nil)
drop_take (suc a) n (x ∷ l) = rw suc-add (drop_take a n l)

module _ (l x : List ℕ) (a n : ℕ) (fits : a + n ≤ length l) (sized : length x ≡ n) where
  pub splice_same : take n (drop a (take a l ++ x ++ drop (a + n) l)) ≡ x
  splice_same =
      let e : length (take a l) ≡ a = length-take-le a l (omega arith) in
      rw (append_assoc, drop_at (take a l) (x ++ drop (a + n) l) a e) (take_at x _ n sized)

  pub splice_before : (b k : ℕ) → b + k ≤ a → take k (drop b (take a l ++ x ++ drop (a + n) l)) ≡ take k (drop b l)
  splice_before b k h =
      let e : length (take a l) ≡ a = length-take-le a l (omega arith) in
      rw (← drop_take b k, ← drop_take b k, append_assoc) (ap (drop b) (take-append-le (b + k) (take a l) _ (omega arith) ∙ take-take (b + k) a l h))

  pub splice_behind : (b : ℕ) → a + n ≤ b → drop b (take a l ++ x ++ drop (a + n) l) ≡ drop b l
  splice_behind b h =
      let k : ℕ = b - (a + n) in
      let e : b ≡ length (take a l ++ x) + k = simp (length-append, length-take) (omega arith) in
      let f : a + n + k ≡ b = omega arith in
      ap (λ (j : ℕ). drop j (take a l ++ x ++ drop (a + n) l)) e ∙ drop-append-add (take a l ++ x) (drop (a + n) l) k ∙ drop-drop k (a + n) l ∙ ap (λ (j : ℕ). drop j l) f

  pub splice_length : length (take a l ++ x ++ drop (a + n) l) ≡ length l
  splice_length = simp (length-append, length-take, length-drop) (omega arith)
