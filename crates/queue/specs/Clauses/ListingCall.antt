-- Listing the root order of a table that was played: what it needs, and what it leaves.
use Rattle.std.specs.Prelude.{ℕ, ◌≡◌, true, List, length, Ok}
use Rattle.tree.specs.Shape.{Shape, shape_for}
use Rattle.tree.specs.Clauses.Invariant.{Sized, Sound}
use Rattle.steps.specs.Process.{processes_allowed, operations_allowed}
use Rattle.calls.specs.ListOrder.{ListResult, list_refusal, listed}
use Rattle.order.specs.OrderList.{order_list}
use Rattle.tree.specs.Memory.{memory_of}

-- p and l are allowed, and the table and the heads are a sound memory of their tree
pub record ListingCall (p l : ℕ) (heads table : List ℕ) : Type 0 where
  pub processes : processes_allowed p ≡ true
  pub operations : operations_allowed l ≡ true
  pub sized : Sized (shape_for p l) (memory_of table heads)
  pub sound : Sound (shape_for p l) (memory_of table heads)

-- the list of a played table t: 10 if it is longer than the output; `table` is all that the call leaves in the work
-- table
unfoldable pub list_from : Shape → List ℕ → List ℕ → List ℕ → ListResult
list_from s t table output = listed (list_refusal (Ok tt) (length (order_list s t)) (length output)) (order_list s t) table output
