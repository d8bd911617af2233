-- That the second promise of the forecast says no less than it should: runs of a take alone, at p = 2 and L = 2, that
-- do not stay within its forecast, and the promise sentence by sentence. Each weaker one that a
-- mistakes/weak_forecast_*.edit puts in its place lets a run pass or lacks a sentence.
use Rattle.std.specs.Prelude.{ℕ, ◌*◌, ◌≤◌, ◌≡◌, refl, ◌≢◌, List, [], ◌∷◌, length, take, replicate}
use Rattle.std.proofs.Common.{arith}
use Rattle.record.specs.StepRecords.{step_records}
use Rattle.record.specs.AnswerRecords.{answer_size}
use Rattle.tree.specs.Shape.{shape_for}
use Rattle.steps.specs.declared.Operation.TheVariants.{Take}
use Rattle.calls.specs.Refusals.{paper_number}
use Rattle.calls.specs.Numbered.{numbered}
use Rattle.calls.specs.Run.{RunResult, run}
use Rattle.calls.specs.History.{Event, opens, finishes, history}
use Rattle.calls.specs.Forecast.{ForecastResult, forecast, begin_records, AllFinish, StaysWithin, Forecasts}
use Rattle.calls.specs.Lists.{begin_take, steps, op}
use Rattle.refutations.specs.NotJudged.{take_alone}
use Rattle.calls.specs.All.{rules}

-- ---- runs that do not stay within it

-- the forecast of the take
abbrev foreseen_take : ForecastResult
foreseen_take = forecast 2 2 (begin_take 0)

-- a run with this number, so many records taken and so many answers
abbrev ran : ℕ → ℕ → ℕ → RunResult
ran number taken answered = record { refusal = number; taken = taken; answered = answered; table = []; answers = [] }

-- the history of the take from its begin to its Q, and of its begin alone
abbrev done : List Event
done = opens (op 0 1) Take ∷ finishes (op 0 1) ∷ []

abbrev begun : List Event
begun = opens (op 0 1) Take ∷ []

done_finishes : AllFinish done
unfolding rules op
done_finishes x e = e

-- a record more than the limit, 42
pub one_record_more : StaysWithin foreseen_take (ran 0 43 0) begun 77 16 → ⊥
unfolding rules begin_take
one_record_more w = omega (arith, w.records)

-- an answer more than the take has
pub one_answer_more : StaysWithin foreseen_take (ran 0 42 2) begun 77 16 → ⊥
unfolding rules begin_take
one_answer_more w = omega (arith, w.answers)

-- no answer, though the take finished
pub one_answer_less : StaysWithin foreseen_take (ran 0 18 0) done 77 16 → ⊥
unfolding rules begin_take
one_answer_less w = omega (arith, w.exact refl done_finishes)

-- 3 on the words foreseen, and 9 with the bytes foreseen
pub table_too_short : StaysWithin foreseen_take (ran 3 0 0) [] 77 16 → ⊥
unfolding rules begin_take
table_too_short w = (w.enough (omega arith) (omega arith)).0 refl

pub answers_too_short : StaysWithin foreseen_take (ran 9 17 0) begun 77 16 → ⊥
unfolding rules begin_take
answers_too_short w = (w.enough (omega arith) (omega arith)).1 refl

-- ---- what the promise says, of every p, L, list, table and buffer: no less
module _ (p l : ℕ) (bytes : List ℕ) (f : ForecastResult) (none : f.refusal ≡ 0) (claim : Forecasts p l bytes f) (records table answers : List ℕ)
    (these : begin_records (step_records records) ≡ step_records bytes)
  where
    abbrev e : RunResult
    e = run p l records table answers

    pub says_records : e.taken ≤ f.records
    says_records = (claim none records table answers these).records

    pub says_answers : 16 * e.answered ≤ f.answer_bytes
    unfolding answer_size
    says_answers = (claim none records table answers these).answers

    pub says_exact : e.refusal ≡ 0 → AllFinish (history (shape_for p l) (numbered (take e.taken (step_records records)))) → 16 * e.answered ≡ f.answer_bytes
    unfolding answer_size
    says_exact = (claim none records table answers these).exact

    pub says_enough : f.words ≤ length table → f.answer_bytes ≤ length answers → (e.refusal ≢ 3) × (e.refusal ≢ 9)
    unfolding paper_number
    says_enough = (claim none records table answers these).enough

-- the steps of a list are not among its begins
pub with_steps : (f : ForecastResult) → f.refusal ≡ 0 → Forecasts 2 2 (begin_take 0) f → 18 ≤ f.records
unfolding rules begin_take steps
with_steps f none claim = (claim none take_alone (replicate 77 0) (replicate 16 0) refl).records

-- what it does not claim: the bytes of a list that does not finish are not exact
pub not_exact : answer_size * (run 2 2 (begin_take 0) (replicate 77 0) (replicate 16 0)).answered ≡ foreseen_take.answer_bytes → ⊥
unfolding rules begin_take
not_exact e = omega (arith, e)
