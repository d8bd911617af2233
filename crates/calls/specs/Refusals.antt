-- What each call turns down: the refusals, their numbers, and the order of the tests.
use Rattle.std.specs.Prelude.{ℕ, ◌%◌, Bool, true, false, not, ◌&&◌, ltb, leb, eqb, Result, Ok, Err, if◌then◌else◌}
use Rattle.record.specs.declared.StepRecord.{StepRecord}
use Rattle.record.specs.StepRecords.{step_size, is_step, ill_formed}
use Rattle.record.specs.AnswerRecords.{answer_size}
use Rattle.tree.specs.Shape.{Shape, processes, shape_for}
use Rattle.tree.specs.Layout.{words_needed}
use Rattle.steps.specs.declared.Process.{Process}
use Rattle.steps.specs.Process.{processes_allowed, operations_allowed}
use Rattle.steps.specs.Machine.{is_idle, at_q}
use Rattle.calls.specs.declared.Refusal.{Refusal}
use Rattle.calls.specs.declared.Refusal.TheVariants.{Processes, Operations, TableShort, RecordsTorn}
use Rattle.calls.specs.declared.Refusal.TheVariants.{IllFormed, BeginWhileBusy, StepWhileIdle, BegunAll, AnswersFull, OutputShort, LogTorn, StepAmongBegins}

-- the paper's number of a refusal
unfoldable pub paper_number : Refusal → ℕ
paper_number Processes = 1
paper_number Operations = 2
paper_number TableShort = 3
paper_number RecordsTorn = 4
paper_number IllFormed = 5
paper_number BeginWhileBusy = 6
paper_number StepWhileIdle = 7
paper_number BegunAll = 8
paper_number AnswersFull = 9
paper_number OutputShort = 10
paper_number LogTorn = 11
paper_number StepAmongBegins = 12

-- what a test comes to: nothing, or why it refuses
abbrev pub Acceptance : Type 0
Acceptance = Result (Unit {0}) Refusal

unfoldable pub accepted : Acceptance → Bool
accepted (Ok x) = true
accepted (Err n) = false

-- 0 for none
unfoldable pub refusal_number : Acceptance → ℕ
refusal_number (Ok x) = 0
refusal_number (Err n) = paper_number n

-- some bytes are not whole records of `size` bytes
unfoldable pub torn : ℕ → ℕ → Bool
torn size bytes = not (eqb (bytes % size) 0)

-- of two tests, the first that refuses
unfoldable pub first_refusal : Acceptance → Acceptance → Acceptance
first_refusal a b = if accepted a then b else a

-- the settings of a call, p and l: 1, 2
unfoldable pub settings_refusal : ℕ → ℕ → Acceptance
settings_refusal p l =
    if not (processes_allowed p) then Err Processes
    else (if not (operations_allowed l) then Err Operations
    else Ok tt)

-- its list, so many bytes of records: 4
unfoldable pub bytes_refusal : ℕ → Acceptance
bytes_refusal bytes = if torn step_size bytes then Err RecordsTorn else Ok tt

-- its buffers, a work table of so many words for a tree of shape s and so many bytes of records: 3, 4
unfoldable pub buffer_refusal : Shape → ℕ → ℕ → Acceptance
buffer_refusal s words bytes = if ltb words (words_needed s) then Err TableShort else bytes_refusal bytes

-- a call before its first record: 1, 2, 3, 4
unfoldable pub call_refusal : ℕ → ℕ → ℕ → ℕ → Acceptance
call_refusal p l words bytes = first_refusal (settings_refusal p l) (buffer_refusal (shape_for p l) words bytes)

-- a begin by process q, where a process has at most l operations: 8, 6
unfoldable pub begin_refusal : ℕ → Process → Acceptance
begin_refusal l q =
    if leb l q.begun then Err BegunAll
    else (if not (is_idle q.status) then Err BeginWhileBusy
    else Ok tt)

-- a step of process q, where there are `room` answer bytes left: 7, 9
unfoldable pub step_refusal : ℕ → Process → Acceptance
step_refusal room q =
    if is_idle q.status then Err StepWhileIdle
    else (if at_q q.status && ltb room answer_size then Err AnswersFull
    else Ok tt)

-- a record, whose process is q: 5, then the tests of a step or of a begin
unfoldable pub record_refusal : Shape → ℕ → Process → StepRecord → Acceptance
record_refusal s room q r =
    if ill_formed (processes s) r then Err IllFormed
    else (if is_step r then step_refusal room q
    else begin_refusal s.most q)
