-- What the generator prints: a table of numbers as text.
use Rattle.std.specs.Prelude.{ℕ, List, [], ◌∷◌, ◌++◌}
use Rattle.std.specs.List.{flat_map}
use Rattle.text.specs.Characters.{ascii}
use Rattle.text.specs.Decimal.{decimal, number_field}

-- numbers, one space between two
unfoldable pub spaced : List ℕ → List ℕ
spaced [] = []
spaced (x ∷ xs) = decimal x ++ flat_map number_field xs

-- a row is a line
unfoldable pub row_line : List ℕ → List ℕ
row_line row = spaced row ++ ascii "\n"

unfoldable pub table_text : List (List ℕ) → List ℕ
table_text table = flat_map row_line table
