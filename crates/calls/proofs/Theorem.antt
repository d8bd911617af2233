-- THE theorem: demand 3 holds of what Run leaves, for every p, L, list of bytes, table and answer buffer; and of every
-- list of records, for general H.
use Prim.Native.Nat.{ℕ, ◌*◌, ◌≤◌}
use native.Mathlib.Omega.{arith}
use native.Mathlib.Nat.{le_refl}
use mathlib.Core.Path.{◌≡◌, refl, sym, subst}
use mathlib.Core.Bool.{true, false}
use mathlib.Core.List.{List}
use lib.ListN.{length, take, drop}
use lib.Seq.{take_at}
use lib.Dec.{eqb}
use Rattle.base.proofs.Cases.{both}
use Rattle.record.specs.declared.StepRecord.{StepRecord}
use Rattle.record.specs.StepRecords.{step_records}
use Rattle.record.specs.AnswerRecords.{answer_size, log_bytes}
use Rattle.record.proofs.Lengths.{log_length}
use Rattle.tree.specs.Shape.{Shape, height_for, shape_for}
use Rattle.tree.specs.Layout.{words_needed}
use Rattle.steps.specs.Machine.{Machine}
use Rattle.calls.specs.Refusals.{accepted, call_refusal}
use Rattle.calls.specs.Numbered.{Numbered, numbered}
use Rattle.calls.specs.Run.{Played, play, run_turned_down, run_played, run}
use Rattle.calls.specs.History.{begun_by, machine_after, history}
use Rattle.calls.specs.Demand3.{QueuePromises, Demand3, RunKeeps}
use Rattle.calls.proofs.Played.{played_machine, played_answers, played_legal}
use Rattle.calls.proofs.Agrees.{Agrees}
use Rattle.calls.proofs.Runs.{runs}
use Rattle.calls.proofs.Holds.{kept}

-- ---- general H: every list of records, to its end or up to its first refusal
module _ (s : Shape) (tall : 1 ≤ s.height) (room : ℕ) (rs : List StepRecord) where
  abbrev g : Played
  g = play s room rs

  abbrev took : List Numbered
  took = numbered (take g.taken rs)

  -- history, answers and machine agree
  pub played_agreed : Agrees s (play s room rs).machine (λ k. begun_by k (history s (numbered (take (play s room rs).taken rs)))) (history s (numbered (take (play s room rs).taken rs)))
      (play s room rs).answers
  played_agreed =
      subst (λ (x : Machine). Agrees s x (λ k. begun_by k (history s took)) (history s took) g.answers) (sym (played_machine s room rs))
      (subst (Agrees s (machine_after s took) (λ k. begun_by k (history s took)) (history s took)) (sym (played_answers s room rs)) (runs s tall (played_legal s room rs)))

  pub played_kept : QueuePromises s (history s took) (log_bytes g.answers) g.machine.memory.table
  played_kept = kept played_agreed tall

  pub played_words : length (play s room rs).machine.memory.table ≡ words_needed s
  played_words = played_agreed.invariant.sized.words

-- ---- p and L
-- the tree for p processes has a root above its leaves
pub tall_for : (p l : ℕ) → 1 ≤ (shape_for p l).height
unfolding shape_for height_for
tall_for p l =
    both (λ (x : ℕ). 1 ≤ x) (eqb p 2) (le_refl _) (both (λ (x : ℕ). 1 ≤ x) (eqb p 4) (omega arith) (omega arith))

-- every list of bytes, and every room for answers
pub demand3_played : (p l room : ℕ) (bytes : List ℕ)
    → Demand3 p l (take (play (shape_for p l) room (step_records bytes)).taken (step_records bytes)) (log_bytes (play (shape_for p l) room (step_records bytes)).answers)
    (play (shape_for p l) room (step_records bytes)).machine.memory.table
demand3_played p l room bytes = played_kept (shape_for p l) (tall_for p l) room (step_records bytes)

-- ---- what Run leaves in the buffers

-- of a call that is turned down
pub run_down : (p l : ℕ) (records table answers : List ℕ) → accepted (call_refusal p l (length table) (length records)) ≡ false
    → run p l records table answers ≡ run_turned_down (call_refusal p l (length table) (length records)) table answers
unfolding run
run_down p l records table answers e = rw e

module _ (p l : ℕ) (records table answers : List ℕ) (taken : accepted (call_refusal p l (length table) (length records)) ≡ true) where
  abbrev s : Shape
  s = shape_for p l

  abbrev played : Played
  played = play (shape_for p l) (length answers) (step_records records)

  pub run_is : run p l records table answers ≡ run_played s played table answers
  unfolding run
  run_is = rw taken

  log_is : take (answer_size * (run_played s played table answers).answered) (run_played s played table answers).answers ≡ log_bytes played.answers
  unfolding run_played
  log_is = take_at (log_bytes played.answers) (drop (answer_size * length played.answers) answers) (answer_size * length played.answers) (log_length played.answers)

  pub table_is : take (words_needed s) (run_played s played table answers).table ≡ played.machine.memory.table
  unfolding run_played
  table_is =
      take_at played.machine.memory.table (drop (words_needed s) table) (words_needed s) (played_words s (tall_for p l) (length answers) (step_records records))

  taken_is : (run_played s played table answers).taken ≡ played.taken
  unfolding run_played
  taken_is = refl

  -- of a call that is not turned down
  pub demand3_run : RunKeeps p l records (run p l records table answers)
  demand3_run =
      let e = run_played s played table answers in
      let t = take (words_needed s) e.table in
      let log = take (answer_size * e.answered) e.answers in
      subst (RunKeeps p l records) (sym run_is)
      (subst (λ (n : ℕ). Demand3 p l (take n (step_records records)) log t) (sym taken_is)
      (subst (λ (x : List ℕ). Demand3 p l (take played.taken (step_records records)) x t) (sym log_is)
      (subst (Demand3 p l (take played.taken (step_records records)) (log_bytes played.answers)) (sym table_is)
      (demand3_played p l (length answers) records))))
