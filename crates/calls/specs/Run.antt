-- Run: the step records played in order, until the end or the first that is refused.
use Rattle.std.specs.Prelude.{ℕ, ◌+◌, ◌*◌, ◌-◌, not, length, drop, Ok, if◌then◌else◌}
use mathlib.Core.List.{List, [], ◌++◌, foldl}
use Rattle.record.specs.declared.StepRecord.{StepRecord}
use Rattle.record.specs.declared.AnswerRecord.{AnswerRecord}
use Rattle.record.specs.StepRecords.{is_step, is_begin_put, step_records}
use Rattle.record.specs.AnswerRecords.{answer_size, log_bytes}
use Rattle.tree.specs.Shape.{Shape, shape_for}
use Rattle.tree.specs.Layout.{words_needed}
use Rattle.steps.specs.declared.Operation.{Operation}
use Rattle.steps.specs.declared.Operation.TheVariants.{Put, Take}
use Rattle.steps.specs.Machine.{Machine, start, process_of, begin, step_of}
use Rattle.calls.specs.Answer.{answers_of}
use Rattle.calls.specs.Numbered.{Numbered, next_after}
use Rattle.calls.specs.Refusals.{Acceptance, refusal_number, accepted, call_refusal, record_refusal}

-- the operation that a begin record opens
unfoldable pub operation_of : StepRecord → Operation
operation_of r = if is_begin_put r then Put r.value else Take

-- a record that is taken: what it leaves of the machine, and the answers that it gives
unfoldable pub take_record : Shape → Machine → Numbered → Machine
take_record s m n =
    let r = n.item in if is_step r then step_of s n.number m r.process else begin m r.process (operation_of r)

unfoldable pub record_answers : Shape → Machine → StepRecord → List AnswerRecord
record_answers s m r = if is_step r then answers_of s m r.process else []

-- a run so far: the machine, the answers, the records taken, and the refusal that ended it, if any did
pub record Played : Type 0 where
  pub machine : Machine
  pub answers : List AnswerRecord
  pub taken : ℕ
  pub refusal : Acceptance

unfoldable pub at_start : Shape → Played
at_start s = record { machine = start s; answers = []; taken = 0; refusal = Ok tt }

-- the next record of the whole list is the one that follows those taken
unfoldable pub taking : Shape → Played → StepRecord → Played
taking s g r =
    record {
      machine = take_record s g.machine (next_after g.taken r);
      answers = g.answers ++ record_answers s g.machine r;
      taken = g.taken + 1;
      refusal = Ok tt;
    }

unfoldable pub refusing : Played → Acceptance → Played
refusing g n = record { machine = g.machine; answers = g.answers; taken = g.taken; refusal = n }

-- one record, where there are `room` answer bytes in all: a refused one changes nothing and ends the run
unfoldable pub play_record : Shape → ℕ → Played → StepRecord → Played
play_record s room g r =
    let n = record_refusal s (room - answer_size * length g.answers) (process_of g.machine r.process) r in
    if not (accepted g.refusal) then g else (if accepted n then taking s g r else refusing g n)

unfoldable pub play : Shape → ℕ → List StepRecord → Played
play s room rs = foldl (play_record s room) (at_start s) rs

-- what Run returns (the paper's number of the refusal, the records taken, the answers written), and all that it leaves
-- in the work table and in the answer bytes
pub record RunResult : Type 0 where
  pub refusal : ℕ
  pub taken : ℕ
  pub answered : ℕ
  pub table : List ℕ
  pub answers : List ℕ

-- a call turned down returns zero counts and changes nothing
unfoldable pub run_turned_down : Acceptance → List ℕ → List ℕ → RunResult
run_turned_down n table answers = record { refusal = refusal_number n; taken = 0; answered = 0; table = table; answers = answers }

-- words past those needed and bytes past the answers keep their content
unfoldable pub run_played : Shape → Played → List ℕ → List ℕ → RunResult
run_played s g table answers =
    record {
      refusal = refusal_number g.refusal;
      taken = g.taken;
      answered = length g.answers;
      table = g.machine.memory.table ++ drop (words_needed s) table;
      answers = log_bytes g.answers ++ drop (answer_size * length g.answers) answers;
    }

-- Run takes p, L, step records, work table, answer bytes
unfoldable pub run : ℕ → ℕ → List ℕ → List ℕ → List ℕ → RunResult
run p l records table answers =
    let n = call_refusal p l (length table) (length records) in
    let s = shape_for p l in
    if accepted n then run_played s (play s (length answers) (step_records records)) table answers else run_turned_down n table answers
