-- The entries of a list: the same whatever stands for those past its end; of a mapped list; of the numbers between two
-- numbers.
use Prim.Native.Nat.{ℕ, zero, suc, ◌+◌, ◌-◌, ◌<◌}
use native.Mathlib.Nat.{not-suc-le-zero}
use native.Mathlib.Omega.{arith}
use mathlib.Core.Path.{◌≡◌, refl, sym, ◌∙◌}
use mathlib.Core.List.{List, [], ◌∷◌, map}
use lib.ListN.{length, get_or}
use lib.Seq.{set-get_or, get_or-set_same}
use Rattle.base.specs.Between.{following, between}

pub entry : (l : List ℕ) (i d e : ℕ) → i < length l → get_or l i d ≡ get_or l i e
entry l i d e h = sym (rw set-get_or at (get_or-set_same l i (get_or l i d) e h))

pub entry_map : {A B : Type 0} (f : A → B) (xs : List A) (i : ℕ) (d : B) (e : A) → i < length xs → get_or (map f xs) i d ≡ f (get_or xs i e)
entry_map f [] i d e h = absurd (not-suc-le-zero h)
entry_map f (x ∷ xs) zero d e h = refl
entry_map f (x ∷ xs) (suc i) d e h = entry_map f xs i d e (omega arith)

following_length : (n i : ℕ) → length (following i n) ≡ n
unfolding following
following_length zero i = refl
following_length (suc n) i = rw (following_length n (suc i))

pub between_length : (i j : ℕ) → length (between i j) ≡ j - i
unfolding between
between_length i j = following_length (j - i) i

following_entry : (n i k : ℕ) → k < n → get_or (following i n) k 0 ≡ i + suc k
unfolding following
following_entry zero i k h = absurd (not-suc-le-zero h)
following_entry (suc n) i zero h = omega arith
following_entry (suc n) i (suc k) h = following_entry n (suc i) k (omega arith) ∙ omega arith

pub between_entry : (i j k : ℕ) → k < j - i → get_or (between i j) k 0 ≡ i + suc k
unfolding between
between_entry i j k h = following_entry (j - i) i k h
