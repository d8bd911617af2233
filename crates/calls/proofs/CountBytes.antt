-- Request e, "byte 2 is now the steps, byte 3 the helps": in the answer bytes that Run writes they are these numbers
-- themselves, for by the limit on own steps both fit a byte.
use Prim.Native.Nat.{ℕ, zero, suc, ◌+◌, ◌*◌, ◌≤◌, ◌<◌}
use native.Mathlib.Omega.{arith}
use native.Mathlib.Nat.{mod-eq_of_lt, mul-zero}
use mathlib.Core.Path.{◌≡◌, ap, ◌∙◌}
use mathlib.Core.Bool.{true}
use mathlib.Core.List.{List, [], ◌∷◌, map, flat_map}
use lib.ListN.{length, get_or, take, length-map, get_or-map}
use lib.Seq.{take_at, drop-append-add}
use Rattle.record.specs.declared.AnswerRecord.{AnswerRecord}
use Rattle.encoding.specs.Bytes.{bytes_of}
use Rattle.record.specs.StepRecords.{step_records}
use Rattle.record.specs.AnswerRecords.{answer_size, bytes_of_answer, log_bytes}
use Rattle.record.proofs.Lengths.{answer_length}
use Rattle.tree.specs.Shape.{Shape, shape_for}
use Rattle.tree.specs.Order.{OpId}
use Rattle.steps.proofs.Limits.{short_for}
use Rattle.calls.specs.Refusals.{accepted, call_refusal}
use Rattle.calls.specs.Run.{run}
use Rattle.calls.specs.LogVerdict.{record_at}
use Rattle.calls.specs.Numbered.{numbered}
use Rattle.calls.specs.History.{Event, operation, history, own_steps, own_helps}
use Rattle.calls.specs.Demand3.{queue_record, finishing, step_limit, QueuePromises}
use Rattle.calls.proofs.OwnCounts.{helps_within}
use Rattle.calls.proofs.Theorem.{demand3_run}

-- record i of a log is the i-th answer's
record_of_lem : (xs : List AnswerRecord) (i : ℕ) (d : AnswerRecord) → i < length xs → record_at i (log_bytes xs) ≡ bytes_of_answer (get_or xs i d)
unfolding record_at log_bytes flat_map
record_of_lem [] i d h = absurd (omega arith)
record_of_lem (x ∷ xs) zero d h = rw (mul-zero answer_size) (take_at (bytes_of_answer x) (log_bytes xs) answer_size (answer_length x))
record_of_lem (x ∷ xs) (suc i) d h =
    let n : answer_size * suc i ≡ length (bytes_of_answer x) + answer_size * i = omega (arith, answer_length x) in
    rw (n, drop-append-add (bytes_of_answer x) (log_bytes xs) (answer_size * i)) (record_of_lem xs i d (omega arith))

-- bytes 2 and 3 of an answer with so few steps and helps
counts_in_lem : (a : AnswerRecord) → a.steps < 256 → a.helps < 256 → (get_or (bytes_of_answer a) 2 0 ≡ a.steps) × (get_or (bytes_of_answer a) 3 0 ≡ a.helps)
unfolding bytes_of_answer bytes_of
counts_in_lem a h k = (mod-eq_of_lt h, mod-eq_of_lt k)

-- of bytes of which demand 3 holds, in a tree of height 3 at most
module _ {s : Shape} {h : List Event} {log t : List ℕ} (low : s.height ≤ 3) (keeps : QueuePromises s h log t) where
  pub steps_fit : (x : OpId) → own_steps x h < 256
  unfolding step_limit
  steps_fit x = omega (arith, keeps.steps_bounded x)

  pub helps_fit : (x : OpId) → own_helps x h < 256
  helps_fit x = omega (arith, steps_fit x, helps_within x h)

  counts_told : (i : ℕ) → i < length (finishing h)
      → let x = get_or (finishing h) i (operation 0 0) in (get_or (record_at i log) 2 0 ≡ own_steps x h) × (get_or (record_at i log) 3 0 ≡ own_helps x h)
  unfolding queue_record
  counts_told i l =
      let x : OpId = get_or (finishing h) i (operation 0 0) in
      let is : record_at i log ≡ bytes_of_answer (queue_record s t h x) =
      ap (record_at i) keeps.answered
      ∙ record_of_lem (map (queue_record s t h) (finishing h)) i (queue_record s t h (operation 0 0)) (rw length-map l)
      ∙ ap bytes_of_answer (get_or-map (queue_record s t h) (finishing h) i (operation 0 0)) in
      rw is (counts_in_lem (queue_record s t h x) (steps_fit x) (helps_fit x))

-- of what Run leaves, for every p, L, list of bytes, table and buffer: in the order of the Q's
pub count_bytes : (p l : ℕ) (records table answers : List ℕ) → accepted (call_refusal p l (length table) (length records)) ≡ true
    → let e = run p l records table answers in
    let log = take (answer_size * e.answered) e.answers in
    let h = history (shape_for p l) (numbered (take e.taken (step_records records))) in
    (i : ℕ) → i < length (finishing h)
    → let x = get_or (finishing h) i (operation 0 0) in (get_or (record_at i log) 2 0 ≡ own_steps x h) × (get_or (record_at i log) 3 0 ≡ own_helps x h)
count_bytes p l records table answers taken = counts_told (short_for p l) (demand3_run p l records table answers taken)
