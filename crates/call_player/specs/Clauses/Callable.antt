-- What playing the records of a call needs.
use Rattle.std.specs.Prelude.{ℕ, ◌*◌, ◌≤◌, ◌≡◌, ◌⊎◌, true, List, replicate}
use Rattle.tree.specs.Shape.{shape_for}
use Rattle.tree.specs.Layout.{words_needed}
use Rattle.steps.specs.Process.{processes_allowed, operations_allowed}

-- p and l are allowed, each head is 1, the table has the words needed, and there are `room` answer bytes or none
pub record Callable (p l : ℕ) (heads : List ℕ) (words room bytes : ℕ) : Type 0 where
  pub processes : processes_allowed p ≡ true
  pub most : operations_allowed l ≡ true
  pub ones : heads ≡ replicate (2 * p) 1
  pub enough : words_needed (shape_for p l) ≤ words
  pub bounded : (bytes ≡ 0) ⊎ (bytes ≡ room)
