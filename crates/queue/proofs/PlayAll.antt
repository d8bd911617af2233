-- Records played without an answer buffer: there is room for the answer of each, and all that they leave.
use Prim.Native.Nat.{ℕ, ◌*◌}
use native.Mathlib.Omega.{arith}
use mathlib.Core.Path.{◌≡◌, ap, sym, ◌∙◌}
use mathlib.Core.Bool.{true}
use mathlib.Core.List.{List, [], ◌++◌}
use lib.ListN.{length, take, drop, take-append-drop}
use lib.Seq.{take_at}
use Rattle.record.specs.StepRecords.{step_records}
use Rattle.record.specs.AnswerRecords.{answer_size}
use Rattle.record.proofs.Cuts.{records_length}
use Rattle.tree.specs.Shape.{Shape, shape_for}
use Rattle.tree.specs.Layout.{words_needed}
use Rattle.calls.specs.Refusals.{accepted, call_refusal}
use Rattle.calls.specs.Run.{Played, play}
use Rattle.calls.specs.ListOrder.{play_all}
use Rattle.calls.proofs.CallAccepted.{whole_records, accepted_whole}
use Rattle.player.specs.declared.Outcome.{Outcome}
use Rattle.player.specs.Clauses.PlayCalls.{PlayResult}
use Rattle.queue.specs.Clauses.PlayedAll.{PlayedAll}

-- the table that a call leaves: the words played, and those past them as they were
pub table_left : (g : Played) (log before : List ℕ) (o : Outcome) (needed : ℕ) (table table' heads' out' : List ℕ) → PlayResult g log before o (take needed table') heads' out'
    → drop needed table' ≡ drop needed table → table' ≡ g.machine.memory.table ++ drop needed table
table_left g log before o needed table table' heads' out' result rest =
    sym (take-append-drop needed table')
    ∙ ap (λ (x : List ℕ). x ++ drop needed table') result.words
    ∙ ap (λ (x : List ℕ). g.machine.memory.table ++ x) rest

pub all_left : {p l : ℕ} {records log table : List ℕ} {o : Outcome} {heads' table' : List ℕ} → PlayedAll p l records log table o heads' table'
    → table' ≡ (play_all (shape_for p l) (step_records records)).machine.memory.table ++ drop (words_needed (shape_for p l)) table
all_left {p} {l} {records} {log} {table} {o} {heads'} {table'} k =
    table_left (play_all (shape_for p l) (step_records records)) log [] o (words_needed (shape_for p l)) table table' heads' [] k.result k.rest

-- a call that is not turned down, played with 16 bytes of room for each 8
module _ (p l : ℕ) (records table : List ℕ) (ok : accepted (call_refusal p l (length table) (length records)) ≡ true) where
  abbrev s : Shape
  s = shape_for p l

  room_all : 2 * length records ≡ answer_size * length (step_records records)
  unfolding answer_size
  room_all = omega (arith, records_length records, whole_records (length records) (accepted_whole p l (length table) (length records) ok))

  plays_all : play_all s (step_records records) ≡ play s (2 * length records) (step_records records)
  unfolding play_all
  plays_all = ap (λ (n : ℕ). play s n (step_records records)) (sym room_all)

  -- the heads of the nodes are the first 2p
  pub played_all : (log table' nodes more : List ℕ) (o : Outcome) → length nodes ≡ 2 * p
      → PlayResult (play s (2 * length records) (step_records records)) log [] o (take (words_needed s) table') nodes [] → drop (words_needed s) table' ≡ drop (words_needed s) table
      → PlayedAll p l records log table o (take (2 * p) (nodes ++ more)) table'
  played_all log table' nodes more o e result rest = record { result = rw (take_at nodes more (2 * p) e, plays_all) result; rest = rest }
