-- What settings that are not refused say of a record.
use Prim.Native.Nat.{ℕ, ◌<◌}
use native.Mathlib.Omega.{arith}
use mathlib.Core.Path.{◌≡◌, ap, sym, ◌∙◌}
use mathlib.Core.Bool.{Bool, true, false}
use Rattle.record.specs.declared.StepRecord.{StepRecord}
use Rattle.record.specs.StepRecords.{ill_formed}
use Rattle.tree.specs.Shape.{processes, shape_for}
use Rattle.steps.proofs.Limits.{allowed_width, allowed_narrow}
use Rattle.calls.specs.Refusals.{accepted, settings_refusal}
use Rattle.calls.proofs.CallAccepted.{settings_processes}
use Rattle.calls.proofs.Legal.{formed_low}

module _ (p l : ℕ) (ok : accepted (settings_refusal p l) ≡ true) where
  width : processes (shape_for p l) ≡ p
  width = allowed_width p l (settings_processes p l ok)

  -- the tree has p processes, so the test for p is the test for the tree
  pub formed_as : (x : StepRecord) {b c : Bool} → b ≡ ill_formed p x → b ≡ c → ill_formed (processes (shape_for p l)) x ≡ c
  formed_as x told is = ap (λ (n : ℕ). ill_formed n x) width ∙ sym told ∙ is

  -- its process has one of 8 places
  pub formed_slot : (x : StepRecord) → ill_formed (processes (shape_for p l)) x ≡ false → x.process < 8
  formed_slot x formed = omega (arith, formed_low (processes (shape_for p l)) x formed, width, allowed_narrow p l (settings_processes p l ok))
