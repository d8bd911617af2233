-- The theorem: every run of a list stays within the forecast of its begins, for every p, L, list of bytes, table and
-- buffer.
use Prim.Native.Nat.{ℕ, ◌*◌, ◌≤◌, ◌<◌}
use native.Mathlib.Omega.{arith}
use mathlib.Core.Path.{◌≡◌, refl, ap, ◌∙◌, subst}
use mathlib.Core.Logic.{◌≢◌}
use mathlib.Core.Bool.{true, false}
use mathlib.Core.List.{List}
use lib.ListN.{length, take}
use borrow.Author.Tests.{eqb-false, le-ltb}
use Rattle.base.proofs.Cases.{both, or-false, contradiction}
use Rattle.base.proofs.Sums.{sum_most}
use Rattle.record.specs.declared.StepRecord.{StepRecord}
use Rattle.record.specs.StepRecords.{step_size, step_records}
use Rattle.record.specs.AnswerRecords.{answer_size}
use Rattle.tree.specs.Shape.{Shape, processes, shape_for}
use Rattle.tree.specs.Layout.{words_needed}
use Rattle.steps.specs.declared.Status.{Status}
use Rattle.steps.specs.declared.Status.TheVariants.{Idle, Busy}
use Rattle.steps.specs.Machine.{process_of, is_idle}
use Rattle.steps.proofs.Overall.{inside, busy}
use Rattle.calls.specs.declared.Refusal.TheVariants.{TableShort, AnswersFull}
use Rattle.calls.specs.Refusals.{Acceptance, paper_number, refusal_number, accepted, torn, first_refusal, settings_refusal, bytes_refusal, buffer_refusal, call_refusal}
use Rattle.calls.specs.Numbered.{Numbered, numbered}
use Rattle.calls.specs.Run.{RunResult, Played, play, run_turned_down, run_played, run}
use Rattle.calls.specs.History.{operation, begun_by, machine_after, history}
use Rattle.calls.specs.Forecast.{record_limit, forecast_refusal, foreseen, forecast, begin_records, AllFinish, StaysWithin, Forecasts}
use Rattle.calls.proofs.Acceptance.{passed_test}
use Rattle.calls.proofs.Played.{whole_answers, whole_legal, took_all}
use Rattle.calls.proofs.RecordsStay.{opened_yes}
use Rattle.calls.proofs.Runs.{Run, runs}
use Rattle.calls.proofs.Theorem.{tall_for, run_is}
use Rattle.calls.proofs.Unrefused.{run_accepted, run_played_lem}
use Rattle.calls.proofs.RecordLimit.{list_spent}
use Rattle.calls.proofs.Rooms.{Fits, begins_roomy, roomy_fits}
use Rattle.calls.proofs.PlannedBegins.{forecast_settings}
use Rattle.calls.proofs.RunLimits.{list_records, list_answers, run_within}

-- ---- where all operations finish, no process is inside one
module _ (s : Shape) (tall : 1 ≤ s.height) (ns : List Numbered) (run : Run s ns) (all : AllFinish (history s ns)) where
  idle : (k : ℕ) → k < processes s → (x : Status) → (process_of (machine_after s ns) k).status ≡ x → inside x ≤ 0
  unfolding is_idle operation
  idle k kp Idle e = omega arith
  idle k kp (Busy o n) e =
      let d = run.doing k kp o n e in
      contradiction _ (all (operation k (begun_by k (history s ns))) (opened_yes run tall (operation k (begun_by k (history s ns))) d.some (omega arith))) d.unfinished

  all_idle : busy s (machine_after s ns) ≡ 0
  all_idle = omega (arith, sum_most (λ k. inside (process_of (machine_after s ns) k).status) (processes s) 0 (λ k kp. idle k kp _ refl))

-- ---- a list with n begins, and what Run leaves of it
module _ (p l : ℕ) (records table answers : List ℕ) (n : ℕ) (many : length (begin_records (step_records records)) ≡ n) where
  abbrev s : Shape
  s = shape_for p l

  abbrev rs : List StepRecord
  rs = step_records records

  abbrev e : RunResult
  e = run p l records table answers

  within_records : e.taken ≤ n * record_limit s
  unfolding run_turned_down run_played
  within_records =
      run_within p l records table answers (λ (e : RunResult). e.taken ≤ n * record_limit s) (omega arith)
      (λ ok. rw (← many) (list_records s (tall_for p l) (length answers) rs))

  within_answers : answer_size * e.answered ≤ answer_size * n
  unfolding run_turned_down run_played answer_size
  within_answers =
      run_within p l records table answers (λ (e : RunResult). 16 * e.answered ≤ 16 * n) (omega arith)
      (λ ok. omega (arith, many, list_answers s (tall_for p l) (length answers) rs))

  -- all finish
  module _ (none : e.refusal ≡ 0) where
    abbrev g : Played
    g = play s (length answers) rs

    ok : accepted g.refusal ≡ true
    ok = run_played_lem p l records table answers none

    e_is : e ≡ run_played s g table answers
    e_is = run_is p l records table answers (run_accepted p l records table answers none)

    whole : take e.taken rs ≡ rs
    unfolding run_played
    whole = ap (λ (x : RunResult). take x.taken rs) e_is ∙ took_all s (length answers) rs ok

    exactly : AllFinish (history s (numbered (take e.taken rs))) → answer_size * e.answered ≡ answer_size * n
    unfolding run_played answer_size
    exactly all =
        let legal = whole_legal s (length answers) rs ok in
        let done = all_idle s (tall_for p l) (numbered rs) (runs s (tall_for p l) legal) (subst (λ (l : List StepRecord). AllFinish (history s (numbered l))) whole all) in
        omega (
          arith,
          many,
          ap (λ (x : RunResult). x.answered) e_is,
          ap length (whole_answers s (length answers) rs ok),
          (list_spent s (tall_for p l) rs legal).answers,
          done,
        )

  -- enough words and bytes
  module _ (settings : accepted (settings_refusal p l) ≡ true) (wide : words_needed s ≤ length table) (room : answer_size * n ≤ length answers) where
    only_torn : call_refusal p l (length table) (length records) ≡ bytes_refusal (length records)
    unfolding call_refusal first_refusal buffer_refusal
    only_torn = rw (settings, le-ltb (length table) (words_needed s) wide)

    torn_fits : Fits (refusal_number (bytes_refusal (length records)))
    unfolding bytes_refusal paper_number refusal_number
    torn_fits = both (λ (n : Acceptance). Fits (refusal_number n)) (torn step_size (length records)) refl refl

    run_fits : Fits e.refusal
    unfolding run_turned_down run_played
    run_fits =
        run_within p l records table answers (λ (e : RunResult). Fits e.refusal)
        (rw only_torn torn_fits) (λ ok. rw (begins_roomy s (tall_for p l) (length answers) rs (rw many room)) (roomy_fits s rs))

    neither : (e.refusal ≢ paper_number TableShort) × (e.refusal ≢ paper_number AnswersFull)
    neither = let z = or-false _ _ run_fits in (eqb-false _ _ z.0, eqb-false _ _ z.1)

  stays : accepted (settings_refusal p l) ≡ true → StaysWithin (foreseen s n) e (history s (numbered (take e.taken rs))) (length table) (length answers)
  unfolding foreseen
  stays settings = record { records = within_records; answers = within_answers; exact = exactly; enough = neither settings }

-- ---- the forecast
module _ (p l : ℕ) (bytes : List ℕ) where
  refused : accepted (forecast_refusal p l bytes) ≡ false → (forecast p l bytes).refusal ≡ refusal_number (forecast_refusal p l bytes)
  unfolding forecast
  refused e = rw e

  module _ (none : (forecast p l bytes).refusal ≡ 0) where
    nothing : accepted (forecast_refusal p l bytes) ≡ true
    nothing = passed_test (forecast_refusal p l bytes) (forecast p l bytes).refusal refused none

    forecast_is : forecast p l bytes ≡ foreseen (shape_for p l) (length (step_records bytes))
    unfolding forecast
    forecast_is = rw nothing

  pub forecast_holds : Forecasts p l bytes (forecast p l bytes)
  forecast_holds none records table answers these =
      rw (forecast_is none) (stays p l records table answers (length (step_records bytes)) (ap length these) (forecast_settings p l bytes (nothing none)))
