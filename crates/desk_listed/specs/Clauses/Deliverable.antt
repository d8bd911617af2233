-- What is asked of a list of which the queue refuses nothing, and what a run of it leaves.
use Rattle.std.specs.Prelude.{ℕ, ◌≡◌, true, List, ◌++◌, length, drop, replicate}
use Rattle.record.specs.StepRecords.{step_records}
use Rattle.tree.specs.Shape.{shape_for}
use Rattle.tree.specs.Layout.{words_needed}
use Rattle.order.specs.OrderList.{order_list}
use Rattle.calls.specs.Refusals.{accepted, call_refusal}
use Rattle.calls.specs.ListOrder.{play_all}
use Rattle.desk_terms.specs.Clauses.Slots.{entered}

-- a run with room for every answer left table' of `table`, and `received` has what each operation received
pub record ReceivedAll (p l : ℕ) (records table table' received : List ℕ) : Type 0 where
  pub words : table' ≡ (play_all (shape_for p l) (step_records records)).machine.memory.table ++ drop (words_needed (shape_for p l)) table
  pub slots : received ≡ entered l (play_all (shape_for p l) (step_records records)).answers (replicate 4000 0)

-- nothing of a call is refused, on a table of so many words, and `order` is the list of the root order that it leaves
pub record Listed (p l : ℕ) (records : List ℕ) (words : ℕ) (order : List ℕ) : Type 0 where
  pub call : accepted (call_refusal p l words (length records)) ≡ true
  pub taken : accepted (play_all (shape_for p l) (step_records records)).refusal ≡ true
  pub list : order ≡ order_list (shape_for p l) (play_all (shape_for p l) (step_records records)).machine.memory.table
