-- Bytes stored in a list from an index on.
use Rattle.std.specs.Prelude.{ℕ, ◌+◌, ◌≡◌, List, length}
use Rattle.std.proofs.lemmas.List.Edits.{sets}

-- xs is stored from an index on, and `next` is the index after it
pub record Stored (before : List ℕ) (at : ℕ) (xs after : List ℕ) (next : ℕ) : Type 0 where
  pub end : next ≡ at + length xs
  pub bytes : after ≡ sets before at xs
