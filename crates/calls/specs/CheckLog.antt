-- Check a log: a supplier's log against the answers of the step rules.
use Rattle.std.specs.Prelude.{ℕ, suc, ◌/◌, Bool, true, false, ◌&&◌, List, [], ◌∷◌, ◌++◌, map, length, drop, eqb, Result, Ok, Err, if◌then◌else◌}
use Rattle.std.specs.Result.{result_and}
use Rattle.encoding.specs.Bytes.{cut}
use Rattle.record.specs.StepRecords.{step_records}
use Rattle.record.specs.AnswerRecords.{answer_size, bytes_of_answer}
use Rattle.tree.specs.Shape.{Shape, shape_for}
use Rattle.tree.specs.Layout.{words_needed}
use Rattle.calls.specs.declared.Refusal.{Refusal}
use Rattle.calls.specs.declared.Refusal.TheVariants.{LogTorn}
use Rattle.calls.specs.declared.Verdict.{Verdict}
use Rattle.calls.specs.declared.Verdict.TheVariants.{Same, Differs}
use Rattle.calls.specs.Refusals.{Acceptance, paper_number, refusal_number, accepted, torn, first_refusal, call_refusal}
use Rattle.calls.specs.Run.{Played}
use Rattle.calls.specs.ListOrder.{play_all}

-- two records are equal byte for byte
unfoldable pub same_bytes : List ℕ → List ℕ → Bool
same_bytes [] [] = true
same_bytes [] (y ∷ ys) = false
same_bytes (x ∷ xs) [] = false
same_bytes (x ∷ xs) (y ∷ ys) = eqb x y && same_bytes xs ys

-- two logs, from index i on: 'same', or 'differs' with the index of the first record unequal or lacking in one
unfoldable pub compared : ℕ → List (List ℕ) → List (List ℕ) → Verdict
compared i [] [] = Same
compared i [] (y ∷ ys) = Differs i
compared i (x ∷ xs) [] = Differs i
compared i (x ∷ xs) (y ∷ ys) = let r = compared (suc i) xs ys in if same_bytes x y then r else Differs i

-- 1 to 4; 11 log bytes not a multiple of 16
unfoldable pub check_refusal : ℕ → ℕ → ℕ → ℕ → ℕ → Acceptance
check_refusal p l words bytes log = first_refusal (call_refusal p l words bytes) (if torn answer_size log then Err LogTorn else Ok tt)

-- what checking a log comes to: a verdict, or why it is refused
abbrev pub Checking : Type 0
Checking = Result Verdict Refusal

-- the same in numbers: 0 same, 1 differs, 2 refused; the index of the first record that differs, and the paper's
-- number of the refusal, each 0 where there is none
unfoldable pub verdict_number : Checking → ℕ
verdict_number (Ok Same) = 0
verdict_number (Ok (Differs i)) = 1
verdict_number (Err n) = 2

unfoldable pub verdict_index : Checking → ℕ
verdict_index (Ok Same) = 0
verdict_index (Ok (Differs i)) = i
verdict_index (Err n) = 0

unfoldable pub verdict_refusal : Checking → ℕ
verdict_refusal (Ok v) = 0
verdict_refusal (Err n) = paper_number n

-- what the call returns, in numbers, and all that it leaves in the work table
pub record CheckResult : Type 0 where
  pub refusal : ℕ
  pub verdict : ℕ
  pub index : ℕ
  pub table : List ℕ

unfoldable pub checked : Checking → List ℕ → CheckResult
checked v table = record { refusal = verdict_refusal v; verdict = verdict_number v; index = verdict_index v; table = table }

-- the verdict on a list that was played; a refusal gives neither 'same' nor 'differs'
unfoldable pub verdict_on : Played → List ℕ → Checking
verdict_on g log =
    result_and g.refusal (Ok (compared 0 (map bytes_of_answer g.answers) (cut answer_size (length log / answer_size) log)))

unfoldable pub check_played : Shape → Played → List ℕ → List ℕ → CheckResult
check_played s g log table = checked (verdict_on g log) (g.machine.memory.table ++ drop (words_needed s) table)

-- a call turned down has no verdict and changes nothing
unfoldable pub check_turned_down : Acceptance → List ℕ → CheckResult
check_turned_down n table = record { refusal = refusal_number n; verdict = 2; index = 0; table = table }

-- check a log takes p, L, step records, log, work table
unfoldable pub check_log : ℕ → ℕ → List ℕ → List ℕ → List ℕ → CheckResult
check_log p l records log table =
    let n = check_refusal p l (length table) (length records) (length log) in
    let s = shape_for p l in
    if accepted n then check_played s (play_all s (step_records records)) log table else check_turned_down n table
