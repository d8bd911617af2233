-- Lists of numbers that follow each other.
use Rattle.std.specs.Prelude.{ℕ, zero, suc, ◌-◌, List, [], ◌∷◌}

-- the n numbers after i, rising
unfoldable pub following : ℕ → ℕ → List ℕ
following i zero = []
following i (suc n) = suc i ∷ following (suc i) n

-- the numbers after i, up to and with j
unfoldable pub between : ℕ → ℕ → List ℕ
between i j = following i (j - i)
