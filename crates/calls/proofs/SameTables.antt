-- List the order and check a log leave the table that Run leaves with room for every answer.
use Prim.Native.Nat.{ℕ, ◌*◌, ◌≤◌}
use mathlib.Core.Path.{◌≡◌, refl, ap, sym}
use mathlib.Core.Bool.{Bool, true, false}
use mathlib.Core.List.{List}
use lib.ListN.{length}
use Rattle.record.specs.AnswerRecords.{answer_size}
use Rattle.calls.specs.Refusals.{accepted, call_refusal}
use Rattle.calls.specs.Run.{RunResult, run_turned_down, run_played, run}
use Rattle.calls.specs.ListOrder.{listed, list_played, list_order}
use Rattle.calls.specs.CheckLog.{check_refusal, checked, check_played, check_log}
use Rattle.calls.proofs.CallAccepted.{check_call}
use Rattle.calls.proofs.Theorem.{run_down}
use Rattle.calls.proofs.RunLimits.{run_room}

module _ (p l : ℕ) (records table answers : List ℕ) (room : answer_size * (p * l) ≤ length answers) where
  pub list_table : (output : List ℕ) → (list_order p l records table output).table ≡ (run p l records table answers).table
  unfolding list_order list_played listed run_played run_turned_down
  list_table output = on (accepted (call_refusal p l (length table) (length records))) refl
    where
      on : (b : Bool) → accepted (call_refusal p l (length table) (length records)) ≡ b → (list_order p l records table output).table ≡ (run p l records table answers).table
      on true e = rw e (sym (ap (λ (x : RunResult). x.table) (run_room p l records table answers e room)))
      on false e = rw e (sym (ap (λ (x : RunResult). x.table) (run_down p l records table answers e)))

  -- a call of check a log that is not turned down; one that is leaves the table as it was
  pub check_table : (log : List ℕ) → accepted (check_refusal p l (length table) (length records) (length log)) ≡ true
      → (check_log p l records log table).table ≡ (run p l records table answers).table
  unfolding check_log check_played checked run_played
  check_table log e =
      let ok = check_call p l (length table) (length records) (length log) e in
      rw e (sym (ap (λ (x : RunResult). x.table) (run_room p l records table answers ok room)))
