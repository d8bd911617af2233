-- The members of a list.
use Rattle.std.specs.Prelude.{List, [], ◌∷◌}

-- a property of every member
abbrev pub All : {A : Type 0} → (A → Type 0) → List A → Type 0
All P [] = Unit {0}
All P (x ∷ xs) = P x × All P xs
