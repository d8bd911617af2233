-- Forecast: what a list of begin records, one for each operation, will need, before it runs.
use Rattle.std.specs.Prelude.{ℕ, suc, ◌+◌, ◌*◌, ◌≤◌, ◌≡◌, ◌≢◌, true, ◌&&◌, List, [], ◌∷◌, ◌++◌, length, take, leb, eqb, Ok, Err, if◌then◌else◌}
use Rattle.record.specs.declared.StepRecord.{StepRecord}
use Rattle.record.specs.StepRecords.{is_step, is_begin, ill_formed, step_records}
use Rattle.record.specs.AnswerRecords.{answer_size}
use Rattle.tree.specs.Shape.{Shape, processes, shape_for}
use Rattle.tree.specs.Layout.{words_needed}
use Rattle.tree.specs.Order.{OpId}
use Rattle.calls.specs.declared.Refusal.TheVariants.{TableShort, IllFormed, BegunAll, AnswersFull, StepAmongBegins}
use Rattle.calls.specs.Refusals.{Acceptance, paper_number, refusal_number, accepted, first_refusal, settings_refusal, bytes_refusal}
use Rattle.calls.specs.Numbered.{numbered}
use Rattle.calls.specs.Run.{RunResult, run}
use Rattle.calls.specs.History.{Event, history, is_opened, is_finished}
use Rattle.calls.specs.Demand3.{step_limit}

-- ---- the call

-- the most records of an operation: its begin and its own steps
unfoldable pub record_limit : Shape → ℕ
record_limit s = step_limit s + 1

-- the begins of process k
unfoldable pub begins : ℕ → List StepRecord → ℕ
begins k [] = 0
begins k (r ∷ rs) = let n = begins k rs in if is_begin r && eqb r.process k then suc n else n

-- a record whose process begins so many operations before it: 5; 12 kind 0; 8
unfoldable pub planned_refusal : Shape → ℕ → StepRecord → Acceptance
planned_refusal s begun r =
    if ill_formed (processes s) r then Err IllFormed
    else (if is_step r then Err StepAmongBegins
    else (if leb s.most begun then Err BegunAll
    else Ok tt))

-- records that follow others, one by one: the first refusal
unfoldable pub begins_refusal : Shape → List StepRecord → List StepRecord → Acceptance
begins_refusal s before [] = Ok tt
begins_refusal s before (r ∷ rs) =
    let later = begins_refusal s (before ++ (r ∷ [])) rs in
    first_refusal (planned_refusal s (begins r.process before) r) later

-- the call: 1, 2, 4; then its records
unfoldable pub forecast_refusal : ℕ → ℕ → List ℕ → Acceptance
forecast_refusal p l bytes =
    first_refusal (first_refusal (settings_refusal p l) (bytes_refusal (length bytes))) (begins_refusal (shape_for p l) [] (step_records bytes))

-- what the call returns: the paper's number of the refusal, the words of the work table, the bytes of the answers, and
-- a limit on the records of any run
pub record ForecastResult : Type 0 where
  pub refusal : ℕ
  pub words : ℕ
  pub answer_bytes : ℕ
  pub records : ℕ

-- for so many begins
unfoldable pub foreseen : Shape → ℕ → ForecastResult
foreseen s n = record { refusal = 0; words = words_needed s; answer_bytes = answer_size * n; records = n * record_limit s }

-- the forecast takes p, L, begin records; a refusal returns zeros
unfoldable pub forecast : ℕ → ℕ → List ℕ → ForecastResult
forecast p l bytes =
    let n = forecast_refusal p l bytes in
    if accepted n then foreseen (shape_for p l) (length (step_records bytes))
    else record { refusal = refusal_number n; words = 0; answer_bytes = 0; records = 0 }

-- ---- what it says of runs

-- the begin records of a list, in its order
unfoldable pub begin_records : List StepRecord → List StepRecord
begin_records [] = []
begin_records (r ∷ rs) = let bs = begin_records rs in if is_begin r then r ∷ bs else bs

-- every operation that was opened finished
abbrev pub AllFinish : List Event → Type 0
AllFinish h = (x : OpId) → is_opened x h ≡ true → is_finished x h ≡ true

-- forecast f, and a run that returned e, on a work table of so many words and so many bytes for answers; h is the
-- history of the records that it took
pub record StaysWithin (f : ForecastResult) (e : RunResult) (h : List Event) (words room : ℕ) : Type 0 where
  -- it stays within both
  pub records : e.taken ≤ f.records
  pub answers : answer_size * e.answered ≤ f.answer_bytes
  -- if nothing is refused and all operations finish, the answer bytes are exact
  pub exact : e.refusal ≡ 0 → AllFinish h → answer_size * e.answered ≡ f.answer_bytes
  -- a table and a buffer of the sizes foreseen are not too short: neither 3 nor 9
  pub enough : f.words ≤ words → f.answer_bytes ≤ room → (e.refusal ≢ paper_number TableShort) × (e.refusal ≢ paper_number AnswersFull)

-- of a forecast without refusal: every list with these begins in this order, whatever table and buffer it is lent, and
-- whether or not a record is refused
abbrev pub Forecasts : ℕ → ℕ → List ℕ → ForecastResult → Type 0
Forecasts p l bytes f =
    f.refusal ≡ 0 → (records table answers : List ℕ) → begin_records (step_records records) ≡ step_records bytes
    → let e = run p l records table answers in
    StaysWithin f e (history (shape_for p l) (numbered (take e.taken (step_records records)))) (length table) (length answers)
