-- A list of begin records in which the forecast refuses nothing: all are begins of processes below p, and no process
-- has more than L.
use Rattle.std.specs.Prelude.{Ok, if◌then◌else◌}
use Prim.Native.Nat.{ℕ, ◌+◌, ◌*◌, ◌≤◌, ◌<◌}
use native.Mathlib.Omega.{arith}
use mathlib.Core.Path.{◌≡◌, refl, ap}
use mathlib.Core.Bool.{Bool, true, false}
use mathlib.Core.List.{List, [], ◌∷◌, ◌++◌, append-nil}
use lib.ListN.{length}
use lib.Seq.{append_snoc}
use lib.Dec.{leb, eqb}
use borrow.Author.Tests.{eqb-true, leb-false, lt-leb}
use Rattle.base.specs.Members.{All}
use Rattle.record.specs.declared.StepRecord.{StepRecord}
use Rattle.record.specs.StepRecords.{is_step, is_begin, ill_formed, step_records}
use Rattle.tree.specs.Shape.{Shape, processes, shape_for}
use Rattle.calls.specs.Refusals.{accepted, first_refusal, settings_refusal, bytes_refusal}
use Rattle.calls.specs.Forecast.{begins, planned_refusal, begins_refusal, forecast_refusal}
use Rattle.calls.proofs.Acceptance.{passed, both_accepted, first_accepted}
use Rattle.calls.proofs.Legal.{not_step, no_step, formed_low}
use Rattle.calls.proofs.Histories.{begins_snoc}
use Rattle.calls.proofs.BeginRecords.{begin_records_whole, begins_most}

-- what is known of a record that is not refused
pub record Planned (s : Shape) (begun : ℕ) (r : StepRecord) : Type 0 where
  pub formed : ill_formed (processes s) r ≡ false
  pub begins : is_begin r ≡ true
  pub fewer : begun < s.most

pub planned : (s : Shape) (begun : ℕ) (r : StepRecord) → accepted (planned_refusal s begun r) ≡ true → Planned s begun r
unfolding planned_refusal
planned s begun r ok =
    let a = passed (ill_formed (processes s) r) _ _ ok in
    let b = passed (is_step r) _ _ a.1 in
    let c = passed (leb s.most begun) _ _ b.1 in
    record { formed = a.0; begins = not_step r b.0; fewer = leb-false s.most begun c.0 }

pub plan : (s : Shape) (begun : ℕ) (r : StepRecord) → Planned s begun r → accepted (planned_refusal s begun r) ≡ true
unfolding planned_refusal accepted
plan s begun r p = rw (p.formed, no_step r p.begins, lt-leb s.most begun p.fewer)

module _ (s : Shape) where
  -- the first record and those after it
  begins_first : (before : List StepRecord) (r : StepRecord) (rs : List StepRecord) → accepted (begins_refusal s before (r ∷ rs)) ≡ true
      → Planned s (begins r.process before) r × (accepted (begins_refusal s (before ++ (r ∷ [])) rs) ≡ true)
  unfolding begins_refusal
  begins_first before r rs ok =
      let z = both_accepted (planned_refusal s (begins r.process before) r) (begins_refusal s (before ++ (r ∷ [])) rs) ok in
      (planned s (begins r.process before) r z.0, z.1)

  -- what holds of each record that is not refused
  planned_all : (P : StepRecord → Type 0) → ((begun : ℕ) (r : StepRecord) → Planned s begun r → P r) → (before rs : List StepRecord) → accepted (begins_refusal s before rs) ≡ true → All P rs
  planned_all P holds before [] ok = tt
  planned_all P holds before (r ∷ rs) ok =
      let z = begins_first before r rs ok in (holds (begins r.process before) r z.0, planned_all P holds (before ++ (r ∷ [])) rs z.1)

  -- each process stays within L
  one_within : (before : List StepRecord) (r : StepRecord) → Planned s (begins r.process before) r → (k : ℕ) → begins k before ≤ s.most → begins k (before ++ (r ∷ [])) ≤ s.most
  one_within before r a k h = rw (begins_snoc k before r, a.begins) (on (eqb r.process k) refl)
    where
      on : (b : Bool) → eqb r.process k ≡ b → begins k before + (if b then 1 else 0) ≤ s.most
      on true e = omega (arith, a.fewer, ap (λ (j : ℕ). begins j before) (eqb-true r.process k e))
      on false e = omega arith

  planned_within : (before rs : List StepRecord) → accepted (begins_refusal s before rs) ≡ true → (k : ℕ) → begins k before ≤ s.most → begins k (before ++ rs) ≤ s.most
  planned_within before [] ok k h = rw (append-nil before) h
  planned_within before (r ∷ rs) ok k h =
      let z = begins_first before r rs ok in
      rw (← append_snoc before r rs) (planned_within (before ++ (r ∷ [])) rs z.1 k (one_within before r z.0 k h))

  module _ (rs : List StepRecord) (ok : accepted (begins_refusal s [] rs) ≡ true) where
    pub planned_most : length rs ≤ processes s * s.most
    unfolding begins
    planned_most =
        omega (
          arith,
          ap length (begin_records_whole rs (planned_all (λ r. is_begin r ≡ true) (λ n r a. a.begins) [] rs ok)),
          begins_most (processes s) s.most rs (planned_all (λ r. r.process < processes s) (λ n r a. formed_low (processes s) r a.formed) [] rs ok)
              (λ k l. planned_within [] rs ok k (omega arith)),
        )

  -- one record more
  pub planned_snoc : (before rs : List StepRecord) (r : StepRecord) → accepted (begins_refusal s before rs) ≡ true
      → accepted (planned_refusal s (begins r.process (before ++ rs)) r) ≡ true → accepted (begins_refusal s before (rs ++ (r ∷ []))) ≡ true
  unfolding begins_refusal
  planned_snoc before [] r ok more = first_accepted (planned_refusal s (begins r.process before) r) (Ok tt) (rw (append-nil before) at more) ok
  planned_snoc before (q ∷ rs) r ok more =
      let z = both_accepted (planned_refusal s (begins q.process before) q) (begins_refusal s (before ++ (q ∷ [])) rs) ok in
      first_accepted (planned_refusal s (begins q.process before) q) _ z.0
      (planned_snoc (before ++ (q ∷ [])) rs r z.1 (rw (append_snoc before q rs) more))

-- ---- the tests of the call, all failed
module _ (p l : ℕ) (bytes : List ℕ) (ok : accepted (forecast_refusal p l bytes) ≡ true) where
  all_tests : (accepted (first_refusal (settings_refusal p l) (bytes_refusal (length bytes))) ≡ true) × (accepted (begins_refusal (shape_for p l) [] (step_records bytes)) ≡ true)
  unfolding forecast_refusal
  all_tests = both_accepted (first_refusal (settings_refusal p l) (bytes_refusal (length bytes))) (begins_refusal (shape_for p l) [] (step_records bytes)) ok

  pub forecast_settings : accepted (settings_refusal p l) ≡ true
  forecast_settings = (both_accepted (settings_refusal p l) (bytes_refusal (length bytes)) all_tests.0).0

  pub forecast_begins : accepted (begins_refusal (shape_for p l) [] (step_records bytes)) ≡ true
  forecast_begins = all_tests.1
