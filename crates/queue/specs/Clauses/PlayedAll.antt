-- The records of a call played without an answer buffer: what they leave.
use Rattle.std.specs.Prelude.{ℕ, ◌≡◌, List, [], take, drop}
use Rattle.record.specs.StepRecords.{step_records}
use Rattle.tree.specs.Layout.{words_needed}
use Rattle.tree.specs.Shape.{shape_for}
use Rattle.calls.specs.ListOrder.{play_all}
use Rattle.player.specs.declared.Outcome.{Outcome}
use Rattle.player.specs.Clauses.PlayCalls.{PlayResult}

-- the outcome, the heads and the needed words of table' are those of all records played, the answers compared with a
-- log; words past those needed are those of `table`
pub record PlayedAll (p l : ℕ) (records log table : List ℕ) (o : Outcome) (heads table' : List ℕ) : Type 0 where
  pub result : PlayResult (play_all (shape_for p l) (step_records records)) log [] o (take (words_needed (shape_for p l)) table') heads []
  pub rest : drop (words_needed (shape_for p l)) table' ≡ drop (words_needed (shape_for p l)) table
