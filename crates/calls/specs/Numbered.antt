-- The records of a list with their numbers: the number of a record in the whole list, from 1.
use Rattle.std.specs.Prelude.{ℕ, ◌+◌, List, [], ◌∷◌}
use Rattle.record.specs.declared.StepRecord.{StepRecord}

pub record Numbered : Type 0 where
  pub number : ℕ
  pub item : StepRecord

-- the record that follows n others
abbrev pub next_after : ℕ → StepRecord → Numbered
next_after n r = record { number = n + 1; item = r }

-- records that follow n others
unfoldable pub numbered_after : ℕ → List StepRecord → List Numbered
numbered_after n [] = []
numbered_after n (r ∷ rs) = next_after n r ∷ numbered_after (n + 1) rs

-- the records of a whole list
unfoldable pub numbered : List StepRecord → List Numbered
numbered rs = numbered_after 0 rs
