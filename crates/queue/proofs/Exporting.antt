-- What the exported calls return, from what the calls return.
use Prim.Native.Nat.{ℕ}
use mathlib.Core.Path.{◌≡◌, ap}
use mathlib.Core.List.{List, []}
use Rattle.calls.specs.Run.{RunResult}
use Rattle.calls.specs.CheckLog.{CheckResult, Checking, verdict_number, verdict_index, checked}
use Rattle.calls.specs.LogVerdict.{Judges}
use Rattle.queue.specs.declared.Ran.{Ran}
use Rattle.queue.specs.declared.OtqRun.{OtqRun}
use Rattle.queue.specs.declared.OtqCheck.{OtqCheck}
use Rattle.queue.specs.Left.{run_left, check_left}
use Rattle.queue.specs.Exported.{run_exported, check_exported}

-- what Run returns has the same counts for C
pub run_counts : (r : Ran) (x : OtqRun) → ((table answers : List ℕ) → run_exported x table answers ≡ run_left r table answers) → (x.taken ≡ r.taken) × (x.answers ≡ r.answers)
unfolding run_exported run_left
run_counts r x same = (ap (λ (e : RunResult). e.taken) (same [] []), ap (λ (e : RunResult). e.answered) (same [] []))

-- what a verdict tells, its numbers tell
pub check_told : (p l words : ℕ) (records log table : List ℕ) (v : Checking) (r : OtqCheck) → check_exported r table ≡ check_left v table
    → Judges p l words records log (verdict_number v) (verdict_index v) → Judges p l words records log r.verdict r.index
unfolding checked check_left check_exported
check_told p l words records log table v r x told = rw (ap (λ (e : CheckResult). e.verdict) x, ap (λ (e : CheckResult). e.index) x) told
