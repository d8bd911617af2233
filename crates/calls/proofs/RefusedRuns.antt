-- Demand 1: a refusal leaves exactly what the records before it left. A run that stops at a record is, but for the
-- number, the run of the records that it took.
use Prim.Native.Nat.{ℕ, ◌*◌, ◌-◌, ◌%◌, ◌≤◌}
use native.Mathlib.Omega.{arith}
use mathlib.Core.Path.{◌≡◌, refl, ap, sym, ◌∙◌, subst}
use mathlib.Core.Bool.{Bool, true, false}
use mathlib.Core.List.{List, [], ◌∷◌, ◌++◌, append-nil}
use lib.ListN.{length, take, drop, length-take, take-append-drop}
use lib.Seq.{append_snoc, take-append_seam, length-take-le}
use borrow.Author.Tests.{le-ltb, eq-eqb}
use Rattle.record.specs.declared.StepRecord.{StepRecord}
use Rattle.record.specs.StepRecords.{step_size, step_records}
use Rattle.record.specs.AnswerRecords.{answer_size}
use Rattle.record.proofs.Cuts.{records_length, records_append}
use Rattle.tree.specs.Shape.{Shape, shape_for}
use Rattle.tree.specs.Layout.{words_needed}
use Rattle.steps.specs.Machine.{process_of}
use Rattle.calls.specs.Refusals.{Acceptance, accepted, torn, settings_refusal, bytes_refusal, buffer_refusal, call_refusal, record_refusal}
use Rattle.calls.specs.Run.{Played, at_start, taking, refusing, play, RunResult, run_played, run}
use Rattle.calls.specs.FormerOrder.{run_numbered}
use Rattle.calls.proofs.Acceptance.{zero_accepted, first_accepted}
use Rattle.calls.proofs.CallAccepted.{accepted_settings, accepted_enough}
use Rattle.calls.proofs.Played.{played_all, played_length, play_taken, play_refused}

module _ (s : Shape) (room : ℕ) (table answers : List ℕ) where
  abbrev left : Played → RunResult
  left g = run_played s g table answers

  same : (rs : List StepRecord) → accepted (play s room rs).refusal ≡ true → left (play s room rs) ≡ run_numbered 0 (left (play s room rs))
  unfolding run_played run_numbered
  same rs on = rw (zero_accepted (play s room rs).refusal on) refl

  -- a run that took all of us, and is over there
  ends : (us rest : List StepRecord) (g : Played) → accepted (play s room us).refusal ≡ true → g.taken ≡ (play s room us).taken
      → run_numbered 0 (left g) ≡ run_numbered 0 (left (play s room us)) → left (play s room (take g.taken (us ++ rest))) ≡ run_numbered 0 (left g)
  ends us rest g on count e =
      ap (λ (n : ℕ). left (play s room (take n (us ++ rest)))) (count ∙ played_all s room us on)
      ∙ ap (λ (l : List StepRecord). left (play s room l)) (take-append_seam us rest)
      ∙ same us on
      ∙ sym e

  abbrev Leaves : List StepRecord → Type 0
  Leaves l = left (play s room (take (play s room l).taken l)) ≡ run_numbered 0 (left (play s room l))

  module _ (us : List StepRecord) (r : StepRecord) (rs : List StepRecord) (on : accepted (play s room us).refusal ≡ true) where
    abbrev met : Acceptance
    met = record_refusal s (room - answer_size * length (play s room us).answers) (process_of (play s room us).machine r.process) r

    goes_on : (accepted (play s room (us ++ (r ∷ []))).refusal ≡ true → Leaves ((us ++ (r ∷ [])) ++ rs)) → Leaves (us ++ (r ∷ rs))
    unfolding refusing taking accepted run_played run_numbered
    goes_on next = by (accepted met) refl
      where
        by : (b : Bool) → accepted met ≡ b → Leaves (us ++ (r ∷ rs))
        by true e = subst Leaves (append_snoc us r rs) (next (ap (λ (g : Played). accepted g.refusal) (play_taken s room us r on e)))
        by false e =
            let over : play s room (us ++ (r ∷ rs)) ≡ refusing (play s room us) met = play_refused s room us r on e rs in
            ends us (r ∷ rs) (play s room (us ++ (r ∷ rs))) on (ap (λ (g : Played). g.taken) over) (ap (λ (g : Played). run_numbered 0 (left g)) over)

  from : (us rs : List StepRecord) → accepted (play s room us).refusal ≡ true → Leaves (us ++ rs)
  from us [] on =
      ends us [] (play s room (us ++ [])) on (ap (λ (l : List StepRecord). (play s room l).taken) (append-nil us)) (ap (λ (l : List StepRecord). run_numbered 0 (left (play s room l))) (append-nil us))
  from us (r ∷ rs) on = goes_on us r rs on (from (us ++ (r ∷ [])) rs)

  pub leaves_taken : (rs : List StepRecord) → Leaves rs
  unfolding play at_start accepted
  leaves_taken rs = from [] rs refl

-- the bytes of the first n records
first_records : (records : List ℕ) (n : ℕ) → 8 * n ≤ length records → step_records (take (8 * n) records) ≡ take n (step_records records)
first_records records n h =
    let long : length (take (8 * n) records) ≡ 8 * n = length-take-le (8 * n) records h in
    let many : length (step_records (take (8 * n) records)) ≡ n = records_length (take (8 * n) records) ∙ omega arith in
    sym
    (ap (λ (l : List ℕ). take n (step_records l)) (sym (take-append-drop (8 * n) records))
    ∙ ap (take n) (records_append (take (8 * n) records) (drop (8 * n) records) (omega arith))
    ∙ ap (λ (k : ℕ). take k (step_records (take (8 * n) records) ++ step_records (drop (8 * n) records))) (sym many)
    ∙ take-append_seam (step_records (take (8 * n) records)) (step_records (drop (8 * n) records)))

-- of a call that is not turned down: the call on the records taken returns 0, and all else is the same
module _ (p l : ℕ) (records table answers : List ℕ) (ok : accepted (call_refusal p l (length table) (length records)) ≡ true) where
  abbrev g : Played
  g = play (shape_for p l) (length answers) (step_records records)

  is : run p l records table answers ≡ run_played (shape_for p l) g table answers
  unfolding run
  is = rw ok

  within : 8 * g.taken ≤ length records
  within = omega (arith, played_length (shape_for p l) (length answers) (step_records records), length-take g.taken (step_records records), records_length records)

  fits : accepted (call_refusal p l (length table) (length (take (8 * g.taken) records))) ≡ true
  unfolding call_refusal buffer_refusal bytes_refusal torn step_size accepted
  fits =
      let whole : length (take (8 * g.taken) records) % 8 ≡ 0 = omega (arith, length-take-le (8 * g.taken) records within) in
      first_accepted (settings_refusal p l) _ (accepted_settings p l (length table) (length records) ok)
      (rw (le-ltb (length table) (words_needed (shape_for p l)) (accepted_enough p l (length table) (length records) ok), eq-eqb _ 0 whole) refl)

  pub run_leaves_taken : run p l (take (step_size * (run p l records table answers).taken) records) table answers ≡ run_numbered 0 (run p l records table answers)
  unfolding run run_played run_numbered step_size call_refusal
  run_leaves_taken =
      rw (is, fits, first_records records g.taken within) (leaves_taken (shape_for p l) (length answers) table answers (step_records records))
