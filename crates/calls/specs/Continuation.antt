-- History only grows: the root order that a list of records leaves is the beginning of the one that it leaves when it
-- is continued.
use Rattle.std.specs.Prelude.{ℕ, ◌≡◌, List, ◌++◌, take}
use Rattle.base.specs.Beginning.{IsBeginning}
use Rattle.tree.specs.Layout.{words_needed}
use Rattle.tree.specs.Order.{Placed, root_order}
use Rattle.tree.specs.Shape.{shape_for}
use Rattle.calls.specs.Run.{RunResult, run}
use Rattle.calls.specs.ListOrder.{ListResult, list_order}

-- the root order in the needed words that Run left: of each entry the kind, the process, the serial and the root block
unfoldable pub order_left : ℕ → ℕ → RunResult → List Placed
order_left p l e = root_order (shape_for p l) (take (words_needed (shape_for p l)) e.table)

-- the bytes that list the order wrote
unfoldable pub list_written : ListResult → List ℕ
list_written e = take e.length e.output

-- of two calls of Run, and of two of list the order: if both return 0, no refusal, what the first left is the beginning
-- of what the second left
abbrev pub RunGrows : ℕ → ℕ → RunResult → RunResult → Type 0
RunGrows p l e f =
    e.refusal ≡ 0 → f.refusal ≡ 0 → IsBeginning (order_left p l e) (order_left p l f)

abbrev pub ListGrows : ListResult → ListResult → Type 0
ListGrows e f = e.refusal ≡ 0 → f.refusal ≡ 0 → IsBeginning (list_written e) (list_written f)

-- of p, L, the bytes of a list and those of its continuation, whatever table and buffer each call is lent
pub record HistoryGrows (p l : ℕ) (records more : List ℕ) : Type 0 where
  pub order : (table answers table' answers' : List ℕ) → RunGrows p l (run p l records table answers) (run p l (records ++ more) table' answers')
  pub list : (table output table' output' : List ℕ) → ListGrows (list_order p l records table output) (list_order p l (records ++ more) table' output')
