-- What reading a memory needs: that it is sound.
use Rattle.std.specs.Prelude.{ℕ, ◌≤◌, List}
use Rattle.tree.specs.Shape.{Shape}
use Rattle.tree.specs.Clauses.Invariant.{Sized, Sound}
use Rattle.tree.specs.Memory.{memory_of}

-- a table and heads are a sound memory of a tree of shape s, with at most 8 processes and at most 500 operations of
-- each
pub record SoundTree (s : Shape) (heads table : List ℕ) : Type 0 where
  pub inner : 1 ≤ s.height
  pub tall : s.height ≤ 3
  pub few : s.most ≤ 500
  pub sized : Sized s (memory_of table heads)
  pub sound : Sound s (memory_of table heads)
