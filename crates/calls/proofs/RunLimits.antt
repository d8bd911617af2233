-- Every run takes at most (40H + 2) × p × L records and gives at most p × L answers, and with room for p × L answers it
-- is the run with room for all. For general H; and of what Run leaves, for every p, L, list of bytes, table and buffer.
use Prim.Native.Nat.{ℕ, ◌+◌, ◌*◌, ◌≤◌}
use native.Mathlib.Omega.{arith}
use native.Mathlib.Nat.{mul-le-mul_right, le_trans}
use mathlib.Core.Path.{◌≡◌, refl, ap, ◌∙◌}
use mathlib.Core.Bool.{Bool, true, false}
use mathlib.Core.List.{List}
use lib.ListN.{length, take, drop, take-append-drop}
use Rattle.record.specs.declared.StepRecord.{StepRecord}
use Rattle.record.specs.StepRecords.{step_records}
use Rattle.record.specs.AnswerRecords.{answer_size}
use Rattle.tree.specs.Shape.{Shape, processes, shape_for}
use Rattle.tree.proofs.Places.{processes_most}
use Rattle.steps.proofs.Limits.{allowed_width}
use Rattle.calls.specs.Refusals.{Acceptance, accepted, call_refusal}
use Rattle.calls.specs.Numbered.{numbered}
use Rattle.calls.specs.Run.{RunResult, Played, play, run_turned_down, run_played, run}
use Rattle.calls.specs.ListOrder.{play_all}
use Rattle.calls.specs.Demand3.{step_limit}
use Rattle.calls.specs.Forecast.{record_limit, begin_records}
use Rattle.calls.proofs.Numbers.{numbered_length}
use Rattle.calls.proofs.Legal.{Legal}
use Rattle.calls.proofs.Played.{played_answers, played_legal, played_length}
use Rattle.calls.proofs.CallAccepted.{accepted_processes}
use Rattle.calls.proofs.Theorem.{tall_for, run_down, run_is}
use Rattle.calls.proofs.BeginRecords.{begin_records_first}
use Rattle.calls.proofs.RecordLimit.{list_spent, list_begins}
use Rattle.calls.proofs.Rooms.{all_room}

-- ---- general H
module _ (s : Shape) (tall : 1 ≤ s.height) (room : ℕ) (rs : List StepRecord) where
  abbrev g : Played
  g = play s room rs

  abbrev took : List StepRecord
  took = take g.taken rs

  legal : Legal s (numbered took)
  legal = played_legal s room rs

  -- by the operations that it begins
  taken_by : g.taken ≤ length (begin_records took) * record_limit s
  taken_by = omega (arith, played_length s room rs, numbered_length took, (list_spent s tall took legal).records)

  answered_by : length g.answers ≤ length (begin_records took)
  answered_by = omega (arith, ap length (played_answers s room rs), (list_spent s tall took legal).answers)

  taken_within : (n : ℕ) → length (begin_records took) ≤ n → g.taken ≤ n * record_limit s
  taken_within n h = le_trans taken_by (mul-le-mul_right (record_limit s) h)

  -- by those that its list begins
  took_begins : length (begin_records took) ≤ length (begin_records rs)
  took_begins = omega (arith, begin_records_first took (drop g.taken rs), ap (λ (l : List StepRecord). length (begin_records l)) (take-append-drop g.taken rs))

  pub list_records : g.taken ≤ length (begin_records rs) * record_limit s
  list_records = taken_within (length (begin_records rs)) took_begins

  pub list_answers : length g.answers ≤ length (begin_records rs)
  list_answers = omega (arith, answered_by, took_begins)

  -- by p and L
  pub most_records : g.taken ≤ processes s * s.most * record_limit s
  most_records = taken_within (processes s * s.most) (list_begins s tall took legal)

  -- so with at most 8 processes of at most 500 operations, the number of a record fits 32 bits, also that of the next
  pub number_fits : s.height ≤ 3 → s.most ≤ 500 → g.taken + 1 ≤ 4294967295
  unfolding record_limit step_limit
  number_fits low few =
      let operations : processes s * s.most ≤ 4000 = omega (arith, few, mul-le-mul_right s.most (processes_most s low)) in
      omega (arith, low, most_records, mul-le-mul_right (record_limit s) operations)

  pub most_answers : length g.answers ≤ processes s * s.most
  most_answers = omega (arith, answered_by, list_begins s tall took legal)

-- ---- what Run leaves
module _ (p l : ℕ) (records table answers : List ℕ) where
  abbrev s : Shape
  s = shape_for p l

  abbrev n : Acceptance
  n = call_refusal p l (length table) (length records)

  -- what holds of a call turned down, and of the records played
  pub run_within : (P : RunResult → Type 0) → P (run_turned_down n table answers) → (accepted n ≡ true → P (run_played s (play s (length answers) (step_records records)) table answers))
      → P (run p l records table answers)
  run_within P down played = on (accepted n) refl
    where
      on : (b : Bool) → accepted n ≡ b → P (run p l records table answers)
      on true e = rw (run_is p l records table answers e) (played e)
      on false e = rw (run_down p l records table answers e) down

  allowed : accepted n ≡ true → processes s * s.most ≡ p * l
  unfolding shape_for
  allowed e = ap (λ (k : ℕ). k * l) (allowed_width p l (accepted_processes p l (length table) (length records) e))

  pub run_records : (run p l records table answers).taken ≤ p * l * record_limit s
  unfolding run_turned_down run_played
  run_records =
      run_within (λ (e : RunResult). e.taken ≤ p * l * record_limit s) (omega arith)
      (λ e. rw (← allowed e) (most_records s (tall_for p l) (length answers) (step_records records)))

  pub run_answers : (run p l records table answers).answered ≤ p * l
  unfolding run_turned_down run_played
  run_answers =
      run_within (λ (e : RunResult). e.answered ≤ p * l) (omega arith)
      (λ e. rw (← allowed e) (most_answers s (tall_for p l) (length answers) (step_records records)))

  pub run_room : accepted n ≡ true → answer_size * (p * l) ≤ length answers → run p l records table answers ≡ run_played s (play_all s (step_records records)) table answers
  run_room e h =
      run_is p l records table answers e
      ∙ ap (λ (g : Played). run_played s g table answers) (all_room s (tall_for p l) (step_records records) (length answers) (rw (allowed e) h))
