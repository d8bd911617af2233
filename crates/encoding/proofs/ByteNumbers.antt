-- Lists of bytes, and how large the numbers are that they hold.
use Prim.Native.Nat.{ℕ, zero, suc, ◌+◌, ◌^◌, ◌<◌}
use native.Mathlib.Nat.{pow-succ'}
use native.Mathlib.Omega.{arith}
use mathlib.Core.List.{List, [], ◌∷◌}
use lib.ListN.{get_or, take, drop}
use lib.Seq.{get_or-drop}
use mir.Syntax.{w8}
use mir.Val.{Fits}
use Rattle.encoding.specs.Bytes.{number_of}

-- each element of a list is a byte; so are those of its parts
abbrev pub Bytes : List ℕ → Type 0
Bytes bs = (i : ℕ) → Fits w8 (get_or bs i 0)

pub drop_bytes : (k : ℕ) (bs : List ℕ) → Bytes bs → Bytes (drop k bs)
drop_bytes k bs h i = rw (get_or-drop k bs i 0) (h (k + i))

pub take_bytes : (n : ℕ) (bs : List ℕ) → Bytes bs → Bytes (take n bs)
take_bytes zero bs h i = omega arith
take_bytes (suc n) [] h i = omega arith
take_bytes (suc n) (b ∷ bs) h zero = h 0
take_bytes (suc n) (b ∷ bs) h (suc i) = take_bytes n bs (λ j. h (suc j)) i

-- the number that n bytes hold
pub bytes_below : (n : ℕ) (bs : List ℕ) → Bytes bs → number_of (take n bs) < 256 ^ n
unfolding number_of
bytes_below zero bs h = omega arith
bytes_below (suc n) [] h = rw (pow-succ' 256 n) (omega (arith, bytes_below n [] h))
bytes_below (suc n) (b ∷ bs) h = rw (pow-succ' 256 n) (omega (arith, h 0, bytes_below n bs (λ i. h (suc i))))
