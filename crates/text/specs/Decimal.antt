-- Numbers in decimal.
use Rattle.std.specs.Prelude.{ℕ, zero, suc, ◌+◌, ◌/◌, ◌%◌, List, [], ◌∷◌, ◌++◌, ltb, if◌then◌else◌}
use Rattle.text.specs.Characters.{ascii}

-- the character of a digit: 48 is that of 0, and the others follow
unfoldable pub digit : ℕ → ℕ
digit d = 48 + d

-- the digits of x, and of a number with more than n digits the last n
unfoldable pub last_digits : ℕ → ℕ → List ℕ
last_digits zero x = []
last_digits (suc n) x = let front = last_digits n (x / 10) in if ltb x 10 then digit x ∷ [] else front ++ (digit (x % 10) ∷ [])

-- all digits of x, which are at most x + 1
unfoldable pub decimal : ℕ → List ℕ
decimal x = last_digits (suc x) x

-- a number that is not the first word of a line: one space before it
unfoldable pub number_field : ℕ → List ℕ
number_field x = ascii " " ++ decimal x
