-- The beginning of a list.
use Rattle.std.specs.Prelude.{◌≡◌, List, length, take}

-- xs is the beginning of ys: as many first entries of ys are those of xs, in its order
abbrev pub IsBeginning : {A : Type 0} → List A → List A → Type 0
IsBeginning xs ys = take (length xs) ys ≡ xs
