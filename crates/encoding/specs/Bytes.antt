-- Numbers as bytes, low byte first.
use Rattle.std.specs.Prelude.{ℕ, zero, suc, ◌+◌, ◌*◌, ◌/◌, ◌%◌, List, [], ◌∷◌, take, drop}

-- a number as n bytes
unfoldable pub bytes_of : ℕ → ℕ → List ℕ
bytes_of zero x = []
bytes_of (suc n) x = x % 256 ∷ bytes_of n (x / 256)

-- the number that bytes hold
unfoldable pub number_of : List ℕ → ℕ
number_of [] = 0
number_of (b ∷ bs) = b + 256 * number_of bs

-- the first n records of some bytes, each of `size` bytes: records follow each other with no header
unfoldable pub cut : ℕ → ℕ → List ℕ → List (List ℕ)
cut size zero bs = []
cut size (suc n) bs = take size bs ∷ cut size n (drop size bs)
