-- What a layout keeps: where the parts of its tree's nodes begin.
use Rattle.std.specs.Prelude.{ℕ, ◌*◌, ◌≤◌, ◌<◌, ◌≡◌, List, get_or}
use Rattle.tree.specs.Shape.{Shape, processes}
use Rattle.tree.specs.Layout.{part_start, words_needed}

-- each node's part begins at its entry, and where the last one ends; each entry past that is the words needed
pub record StartsOf (s : Shape) (starts : List ℕ) : Type 0 where
  pub nodes : (v : ℕ) → v ≤ 2 * processes s → get_or starts v 0 ≡ part_start s v
  pub rest : (v : ℕ) → 2 * processes s < v → v < 17 → get_or starts v 0 ≡ words_needed s
