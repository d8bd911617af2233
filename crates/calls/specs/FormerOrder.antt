-- The tests of a record in their former order, 6 before 8, and what is claimed: which answers of the calls the new
-- order changes, and to what. Only that theorem names the former order.
use Rattle.std.specs.Prelude.{ℕ, ◌≡◌, true, false, not, ◌&&◌, List, ◌∷◌, ◌++◌, length, ltb, leb, Ok, Err, if◌then◌else◌}
use Rattle.record.specs.declared.StepRecord.{StepRecord}
use Rattle.record.specs.StepRecords.{is_step, is_begin, ill_formed, step_records}
use Rattle.record.specs.AnswerRecords.{answer_size}
use Rattle.tree.specs.Shape.{Shape, processes, shape_for}
use Rattle.steps.specs.declared.Process.{Process}
use Rattle.steps.specs.Machine.{process_of, is_idle, at_q}
use Rattle.calls.specs.declared.Refusal.TheVariants.{IllFormed, BeginWhileBusy, StepWhileIdle, BegunAll, AnswersFull}
use Rattle.calls.specs.Refusals.{Acceptance, refusal_number, accepted, call_refusal}
use Rattle.calls.specs.Run.{Played, RunResult, run}
use Rattle.calls.specs.ListOrder.{ListResult, list_order}
use Rattle.calls.specs.CheckLog.{CheckResult, check_refusal, check_log}
use Rattle.calls.specs.CallsBy.{play_by, play_all_by, run_by, list_order_by, check_log_by}

-- a record, whose process is q, where there are `room` answer bytes left, as document 01 lists the tests: 5, 6, 7, 8, 9
unfoldable pub former_record : Shape → ℕ → Process → StepRecord → Acceptance
former_record s room q r =
    if ill_formed (processes s) r then Err IllFormed
    else (if is_begin r && not (is_idle q.status) then Err BeginWhileBusy
    else (if is_step r && is_idle q.status then Err StepWhileIdle
    else (if is_begin r && leb s.most q.begun then Err BegunAll
    else (if is_step r && at_q q.status && ltb room answer_size then Err AnswersFull
    else Ok tt))))

-- ---- what is claimed

-- a run over records rs stopped with 6, at a begin of a process that is not idle and has begun L
pub record StoppedInLast (s : Shape) (rs : List StepRecord) (g : Played) : Type 0 where
  pub before : List StepRecord
  pub refused : StepRecord
  pub after : List StepRecord
  pub list : rs ≡ before ++ (refused ∷ after)
  pub taken : g.taken ≡ length before
  pub six : refusal_number g.refusal ≡ 6
  pub begins : is_begin refused ≡ true
  pub busy : is_idle (process_of g.machine refused.process).status ≡ false
  pub begun_all : (process_of g.machine refused.process).begun ≡ s.most

-- the same result with another number
unfoldable pub run_numbered : ℕ → RunResult → RunResult
run_numbered n e = record { refusal = n; taken = e.taken; answered = e.answered; table = e.table; answers = e.answers }

unfoldable pub list_numbered : ℕ → ListResult → ListResult
list_numbered n e = record { refusal = n; length = e.length; table = e.table; output = e.output }

unfoldable pub check_numbered : ℕ → CheckResult → CheckResult
check_numbered n e = record { refusal = n; verdict = e.verdict; index = e.index; table = e.table }

-- a call that passed its own tests, n, stopped so
abbrev pub Stopped : Acceptance → Shape → List StepRecord → Played → Type 0
Stopped n s rs g = (accepted n ≡ true) × StoppedInLast s rs g

-- the former result of a call and its result: equal, where the former call did not stop so; where it did, equal but for
-- the number, 6 there and 8 here
pub data Compared (stopped : Type 0) {R : Type 0} (numbered : ℕ → R → R) (former now : R) : Type 0 where
  equal : (stopped → ⊥) → now ≡ former → Compared stopped numbered former now
  moved : stopped → former ≡ numbered 6 former → now ≡ numbered 8 former → Compared stopped numbered former now

-- of each call
abbrev pub RunCompared : ℕ → ℕ → List ℕ → List ℕ → List ℕ → Type 0
RunCompared p l records table answers =
    let s = shape_for p l in
    let rs = step_records records in
    Compared (Stopped (call_refusal p l (length table) (length records)) s rs (play_by former_record s (length answers) rs)) run_numbered
    (run_by former_record p l records table answers) (run p l records table answers)

abbrev pub ListCompared : ℕ → ℕ → List ℕ → List ℕ → List ℕ → Type 0
ListCompared p l records table output =
    let s = shape_for p l in
    let rs = step_records records in
    Compared (Stopped (call_refusal p l (length table) (length records)) s rs (play_all_by former_record s rs)) list_numbered
    (list_order_by former_record p l records table output) (list_order p l records table output)

abbrev pub CheckCompared : ℕ → ℕ → List ℕ → List ℕ → List ℕ → Type 0
CheckCompared p l records log table =
    let s = shape_for p l in
    let rs = step_records records in
    Compared (Stopped (check_refusal p l (length table) (length records) (length log)) s rs (play_all_by former_record s rs)) check_numbered
    (check_log_by former_record p l records log table) (check_log p l records log table)

-- whatever they are given
pub record EightBeforeSix (p l : ℕ) (records table : List ℕ) : Type 0 where
  pub run : (answers : List ℕ) → RunCompared p l records table answers
  pub list : (output : List ℕ) → ListCompared p l records table output
  pub check : (log : List ℕ) → CheckCompared p l records log table
