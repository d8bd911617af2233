-- The calls by what tests their records: with the tests of the rules they are Run, list the order and check a log.
use Rattle.std.specs.Prelude.{ℕ, ◌*◌, ◌-◌, not, length, if◌then◌else◌}
use mathlib.Core.List.{List, [], foldl}
use Rattle.record.specs.declared.StepRecord.{StepRecord}
use Rattle.record.specs.StepRecords.{step_records}
use Rattle.record.specs.AnswerRecords.{answer_size}
use Rattle.tree.specs.Shape.{Shape, shape_for}
use Rattle.steps.specs.declared.Process.{Process}
use Rattle.steps.specs.Machine.{process_of}
use Rattle.calls.specs.Refusals.{Acceptance, accepted, call_refusal}
use Rattle.calls.specs.Run.{Played, at_start, taking, refusing, RunResult, run_played, run_turned_down}
use Rattle.calls.specs.ListOrder.{ListResult, listed, list_played}
use Rattle.calls.specs.CheckLog.{CheckResult, check_refusal, check_turned_down, check_played}

-- what refuses a record, where there are so many answer bytes left, by its process
abbrev pub Tests : Type 0
Tests = Shape → ℕ → Process → StepRecord → Acceptance

unfoldable pub play_record_by : Tests → Shape → ℕ → Played → StepRecord → Played
play_record_by tests s room g r =
    let n = tests s (room - answer_size * length g.answers) (process_of g.machine r.process) r in
    if not (accepted g.refusal) then g else (if accepted n then taking s g r else refusing g n)

unfoldable pub play_by : Tests → Shape → ℕ → List StepRecord → Played
play_by tests s room rs = foldl (play_record_by tests s room) (at_start s) rs

unfoldable pub play_all_by : Tests → Shape → List StepRecord → Played
play_all_by tests s rs = play_by tests s (answer_size * length rs) rs

unfoldable pub run_by : Tests → ℕ → ℕ → List ℕ → List ℕ → List ℕ → RunResult
run_by tests p l records table answers =
    let n = call_refusal p l (length table) (length records) in
    let s = shape_for p l in
    if accepted n then run_played s (play_by tests s (length answers) (step_records records)) table answers else run_turned_down n table answers

unfoldable pub list_order_by : Tests → ℕ → ℕ → List ℕ → List ℕ → List ℕ → ListResult
list_order_by tests p l records table output =
    let n = call_refusal p l (length table) (length records) in
    let s = shape_for p l in
    if accepted n then list_played s (play_all_by tests s (step_records records)) table output else listed n [] table output

unfoldable pub check_log_by : Tests → ℕ → ℕ → List ℕ → List ℕ → List ℕ → CheckResult
check_log_by tests p l records log table =
    let n = check_refusal p l (length table) (length records) (length log) in
    let s = shape_for p l in
    if accepted n then check_played s (play_all_by tests s (step_records records)) log table else check_turned_down n table
