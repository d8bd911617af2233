-- List the order: the order records of the root order that a list of step records leaves.
use Rattle.std.specs.Prelude.{ℕ, ◌*◌, List, [], ◌++◌, length, drop, ltb, Ok, Err, if◌then◌else◌}
use Rattle.record.specs.declared.StepRecord.{StepRecord}
use Rattle.record.specs.StepRecords.{step_records}
use Rattle.record.specs.AnswerRecords.{answer_size}
use Rattle.tree.specs.Shape.{Shape, shape_for}
use Rattle.tree.specs.Layout.{words_needed}
use Rattle.calls.specs.declared.Refusal.TheVariants.{OutputShort}
use Rattle.calls.specs.Refusals.{Acceptance, refusal_number, accepted, call_refusal}
use Rattle.calls.specs.Run.{Played, play}
use Rattle.order.specs.OrderList.{order_list}

-- the records played as Run plays them, with room for the answer of each: without an answer buffer no record is refused
-- with 9
unfoldable pub play_all : Shape → List StepRecord → Played
play_all s rs = play s (answer_size * length rs) rs

-- what the call returns (the paper's number of the refusal, the list's length), and all that it leaves in the work
-- table and in the output
pub record ListResult : Type 0 where
  pub refusal : ℕ
  pub length : ℕ
  pub table : List ℕ
  pub output : List ℕ

-- 1 to 8 as Run; then 10, the list longer than the output
unfoldable pub list_refusal : Acceptance → ℕ → ℕ → Acceptance
list_refusal n list output = if accepted n then (if ltb output list then Err OutputShort else Ok tt) else n

-- any refusal writes no output and returns length 0
unfoldable pub listed : Acceptance → List ℕ → List ℕ → List ℕ → ListResult
listed n list table output =
    record {
      refusal = refusal_number n;
      length = if accepted n then length list else 0;
      table = table;
      output = if accepted n then list ++ drop (length list) output else output;
    }

unfoldable pub list_played : Shape → Played → List ℕ → List ℕ → ListResult
list_played s g table output =
    let t = g.machine.memory.table in
    let list = order_list s t in
    listed (list_refusal g.refusal (length list) (length output)) list (t ++ drop (words_needed s) table) output

-- list the order takes p, L, step records, work table, output
unfoldable pub list_order : ℕ → ℕ → List ℕ → List ℕ → List ℕ → ListResult
list_order p l records table output =
    let n = call_refusal p l (length table) (length records) in
    let s = shape_for p l in
    if accepted n then list_played s (play_all s (step_records records)) table output else listed n [] table output
