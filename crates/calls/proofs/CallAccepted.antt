-- What is known of a call that is not turned down.
use Rattle.std.specs.Prelude.{Ok, Err, if◌then◌else◌}
use Prim.Native.Nat.{ℕ, ◌*◌, ◌%◌, ◌≤◌}
use mathlib.Core.Path.{◌≡◌}
use mathlib.Core.Bool.{true, false, not}
use lib.Dec.{ltb, eqb}
use borrow.Author.Tests.{eqb-true, ltb-false, not-false}
use Rattle.record.specs.StepRecords.{step_size}
use Rattle.record.specs.AnswerRecords.{answer_size}
use Rattle.tree.specs.Layout.{words_needed}
use Rattle.tree.proofs.LayoutSums.{product_most}
use Rattle.steps.specs.Process.{processes_allowed, operations_allowed}
use Rattle.steps.proofs.Limits.{allowed_most, allowed_narrow}
use Rattle.calls.specs.declared.Refusal.TheVariants.{LogTorn}
use Rattle.calls.specs.Refusals.{accepted, torn, settings_refusal, bytes_refusal, buffer_refusal, call_refusal}
use Rattle.tree.specs.Shape.{shape_for}
use Rattle.calls.specs.CheckLog.{check_refusal}
use Rattle.calls.proofs.Acceptance.{passed, both_accepted}

-- bytes that are not torn are whole records
pub whole_records : (bytes : ℕ) → torn step_size bytes ≡ false → bytes % 8 ≡ 0
unfolding torn step_size
whole_records bytes e = eqb-true (bytes % 8) 0 (not-false (eqb (bytes % 8) 0) e)

bytes_whole : (bytes : ℕ) → accepted (bytes_refusal bytes) ≡ true → torn step_size bytes ≡ false
unfolding bytes_refusal
bytes_whole bytes ok = (passed (torn step_size bytes) _ _ ok).0

module _ (p l : ℕ) (ok : accepted (settings_refusal p l) ≡ true) where
  pub settings_processes : processes_allowed p ≡ true
  unfolding settings_refusal
  settings_processes = not-false (processes_allowed p) (passed (not (processes_allowed p)) _ _ ok).0

  pub settings_operations : operations_allowed l ≡ true
  unfolding settings_refusal
  settings_operations =
      not-false (operations_allowed l) (passed (not (operations_allowed l)) _ _ (passed (not (processes_allowed p)) _ _ ok).1).0

  -- so there are at most 4,000 operations
  pub settings_few : p * l ≤ 4000
  settings_few = product_most p l 8 500 (allowed_narrow p l settings_processes) (allowed_most l settings_operations).1

module _ (p l words bytes : ℕ) (ok : accepted (call_refusal p l words bytes) ≡ true) where
  call_tests : (accepted (settings_refusal p l) ≡ true) × (accepted (buffer_refusal (shape_for p l) words bytes) ≡ true)
  unfolding call_refusal
  call_tests = both_accepted (settings_refusal p l) (buffer_refusal (shape_for p l) words bytes) ok

  pub accepted_settings : accepted (settings_refusal p l) ≡ true
  accepted_settings = call_tests.0

  pub accepted_processes : processes_allowed p ≡ true
  accepted_processes = settings_processes p l accepted_settings

  pub accepted_operations : operations_allowed l ≡ true
  accepted_operations = settings_operations p l accepted_settings

  buffer_tests : (ltb words (words_needed (shape_for p l)) ≡ false) × (torn step_size bytes ≡ false)
  unfolding buffer_refusal
  buffer_tests = let z = passed (ltb words (words_needed (shape_for p l))) _ _ call_tests.1 in (z.0, bytes_whole bytes z.1)

  pub accepted_enough : words_needed (shape_for p l) ≤ words
  accepted_enough = ltb-false words (words_needed (shape_for p l)) buffer_tests.0

  pub accepted_whole : torn step_size bytes ≡ false
  accepted_whole = buffer_tests.1

-- the same of check a log, whose log has whole records
module _ (p l words bytes log : ℕ) (ok : accepted (check_refusal p l words bytes log) ≡ true) where
  check_tests : (accepted (call_refusal p l words bytes) ≡ true) × (accepted (if torn answer_size log then Err LogTorn else Ok tt) ≡ true)
  unfolding check_refusal
  check_tests = both_accepted (call_refusal p l words bytes) (if torn answer_size log then Err LogTorn else Ok tt) ok

  pub check_call : accepted (call_refusal p l words bytes) ≡ true
  check_call = check_tests.0

  pub check_whole : torn answer_size log ≡ false
  check_whole = (passed (torn answer_size log) _ _ check_tests.1).0
