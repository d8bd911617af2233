-- What check a log leaves, by whether the call is turned down or a record refused.
use Rattle.std.specs.Prelude.{Ok, Err}
use Prim.Native.Nat.{ℕ, ◌*◌, ◌<◌}
use native.Mathlib.Omega.{arith}
use mathlib.Core.Path.{◌≡◌, ap, sym, ◌∙◌, subst}
use mathlib.Core.Bool.{true}
use mathlib.Core.List.{List}
use lib.ListN.{length}
use Rattle.record.specs.StepRecords.{step_records}
use Rattle.record.specs.AnswerRecords.{answer_size}
use Rattle.record.proofs.Cuts.{records_length}
use Rattle.calls.specs.declared.Refusal.{Refusal}
use Rattle.calls.specs.Refusals.{Acceptance, refusal_number, accepted}
use Rattle.tree.specs.Shape.{shape_for}
use Rattle.calls.specs.Run.{Played}
use Rattle.calls.specs.ListOrder.{play_all}
use Rattle.calls.specs.CheckLog.{CheckResult, Checking, verdict_number, verdict_index, verdict_refusal, check_refusal, checked, check_turned_down, verdict_on, check_played, check_log}
use Rattle.calls.specs.LogVerdict.{Judges}
use Rattle.calls.proofs.LogVerdict.{check_judges}
use Rattle.calls.proofs.Played.{played_room}
use Rattle.calls.proofs.CallAccepted.{check_whole}
use Rattle.answer_log.specs.Clauses.Leading.{verdict_of}
use Rattle.answer_log.proofs.Compared.{verdict_compared}
use Rattle.player.specs.declared.Outcome.{Outcome}
use Rattle.queue.specs.Left.{check_left}
use Rattle.queue.specs.Clauses.PlayedAll.{PlayedAll}
use Rattle.queue.proofs.PlayAll.{all_left}

module _ (p l : ℕ) (records log table : List ℕ) where
  abbrev n : Acceptance
  n = check_refusal p l (length table) (length records) (length log)

  -- what the verdict then tells
  pub with_judges : (v : Checking) (table' : List ℕ) → check_left v table' ≡ check_log p l records log table
      → (check_left v table' ≡ check_log p l records log table) × Judges p l (length table) records log (verdict_number v) (verdict_index v)
  unfolding check_left checked
  with_judges v table' e = (e, subst (λ (x : CheckResult). Judges p l (length table) records log x.verdict x.index) (sym e) (check_judges p l records log table))

  pub check_down : (m : Refusal) → Err m ≡ n → check_left (Err m) table ≡ check_log p l records log table
  unfolding check_left check_log checked check_turned_down verdict_refusal verdict_number verdict_index accepted refusal_number
  check_down m e = rw (← e)

-- played
module _ {p l : ℕ} {records log table : List ℕ} {o : Outcome} {heads' table' : List ℕ}
    (ok : accepted (check_refusal p l (length table) (length records) (length log)) ≡ true) (k : PlayedAll p l records log table o heads' table')
  where
    abbrev g : Played
    g = play_all (shape_for p l) (step_records records)

    -- whatever the verdict, the table is as Run leaves it
    left : (v : Checking) → v ≡ verdict_on g log → check_left v table' ≡ check_log p l records log table
    unfolding check_left check_log check_played
    left v e = (λ i. checked (e i) (all_left k i)) ∙ (rw ok)

    pub check_few : length records * 1 < 9223372036854775808 → 16 * o.answers < 18446744073709551616
    unfolding play_all answer_size
    check_few h =
        omega (arith, k.result.answered, records_length records, played_room (shape_for p l) (answer_size * length (step_records records)) (step_records records))

    pub check_refused : (m : Refusal) → o.ended ≡ Err m → check_left (Err m) table' ≡ check_log p l records log table
    unfolding verdict_on
    check_refused m e = left (Err m) (rw (← k.result.ended, e))

    pub check_compared : o.ended ≡ Ok tt → check_left (Ok (verdict_of o.equal o.answers (length log))) table' ≡ check_log p l records log table
    unfolding verdict_on
    check_compared e =
        left (Ok (verdict_of o.equal o.answers (length log)))
        (rw (k.result.equal, k.result.answered, ← k.result.ended, e) (ap Ok (verdict_compared g.answers log (check_whole p l (length table) (length records) (length log) ok))))
