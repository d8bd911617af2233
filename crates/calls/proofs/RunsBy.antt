-- Laws of the calls by what tests their records.
use Prim.Native.Nat.{ℕ, ◌*◌, ◌-◌}
use mathlib.Core.Path.{◌≡◌, refl, ◌∙◌}
use mathlib.Core.Bool.{true, false}
use mathlib.Core.List.{List, [], ◌∷◌, ◌++◌, foldl, foldl-append}
use lib.ListN.{length}
use Rattle.record.specs.declared.StepRecord.{StepRecord}
use Rattle.record.specs.AnswerRecords.{answer_size}
use Rattle.tree.specs.Shape.{Shape}
use Rattle.steps.specs.Machine.{process_of}
use Rattle.calls.specs.Refusals.{Acceptance, accepted, record_refusal}
use Rattle.calls.specs.Run.{Played, at_start, taking, refusing, play_record, play, run}
use Rattle.calls.specs.ListOrder.{play_all, list_order}
use Rattle.calls.specs.CheckLog.{check_log}
use Rattle.calls.specs.CallsBy.{Tests, play_record_by, play_by, play_all_by, run_by, list_order_by, check_log_by}

-- ---- with the tests of the rules they are the calls
pub run_by_lem : (p l : ℕ) (records table answers : List ℕ) → run p l records table answers ≡ run_by record_refusal p l records table answers
unfolding run run_by play play_by play_record play_record_by
run_by_lem p l records table answers = refl

pub list_by : (p l : ℕ) (records table output : List ℕ) → list_order p l records table output ≡ list_order_by record_refusal p l records table output
unfolding list_order list_order_by play_all play_all_by play play_by play_record play_record_by
list_by p l records table output = refl

pub check_by : (p l : ℕ) (records log table : List ℕ) → check_log p l records log table ≡ check_log_by record_refusal p l records log table
unfolding check_log check_log_by play_all play_all_by play play_by play_record play_record_by
check_by p l records log table = refl

-- ---- a run
module _ (tests : Tests) (s : Shape) (room : ℕ) where
  pub by_append : (rs ts : List StepRecord) → play_by tests s room (rs ++ ts) ≡ foldl (play_record_by tests s room) (play_by tests s room rs) ts
  unfolding play_by
  by_append rs ts = foldl-append (play_record_by tests s room) (at_start s) rs ts

  -- one that is over stays as it is
  pub by_over : (g : Played) → accepted g.refusal ≡ false → (rs : List StepRecord) → foldl (play_record_by tests s room) g rs ≡ g
  unfolding play_record_by
  by_over g e [] = refl
  by_over g e (r ∷ rs) = rw e (by_over g e rs)

  -- a run that is not over meets a record
  module _ (rs : List StepRecord) (r : StepRecord) (g : Played) (is : play_by tests s room rs ≡ g) (on : accepted g.refusal ≡ true) where
    abbrev met : Acceptance
    met = tests s (room - answer_size * length g.answers) (process_of g.machine r.process) r

    pub by_taken : accepted met ≡ true → play_by tests s room (rs ++ (r ∷ [])) ≡ taking s g r
    unfolding play_record_by
    by_taken e = by_append rs (r ∷ []) ∙ rw (is, on, e)

    pub by_refused : accepted met ≡ false → (ts : List StepRecord) → play_by tests s room (rs ++ (r ∷ ts)) ≡ refusing g met
    unfolding play_record_by refusing
    by_refused e ts = by_append rs (r ∷ ts) ∙ rw (is, on, e) (by_over (refusing g met) e ts)
