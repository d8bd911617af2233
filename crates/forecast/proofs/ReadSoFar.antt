-- The begin records read so far: how many operations each process begins in them, and which records are left.
use Prim.Native.Nat.{ℕ, suc, ◌+◌, ◌*◌, ◌/◌, ◌≤◌, ◌<◌}
use native.Mathlib.Numerals.{add-one}
use native.Mathlib.Omega.{arith}
use native.Mathlib.Decide.{ℕ_discrete}
use mathlib.Core.Path.{◌≡◌, refl, ap, sym, ◌∙◌}
use mathlib.Core.Bool.{Bool, true, false}
use mathlib.Core.List.{List, [], ◌∷◌, ◌++◌}
use lib.ListN.{length, get_or, set, take, drop, replicate, length-set, get_or-replicate, drop_of_length-le}
use lib.Seq.{take-suc, drop-cons, get_or-set_same, get_or-set_other}
use lib.Dec.{eqb}
use borrow.Author.Tests.{eq-eqb, ne_eqb}
use Rattle.std.specs.Prelude.{Ok, Err, if◌then◌else◌}
use Rattle.record.specs.declared.StepRecord.{StepRecord}
use Rattle.record.specs.StepRecords.{step_record, step_records, ill_formed}
use Rattle.record.proofs.Cuts.{records_length, record_at_lem}
use Rattle.tree.specs.Shape.{Shape, processes}
use Rattle.calls.specs.declared.Refusal.{Refusal}
use Rattle.calls.specs.Refusals.{Acceptance, accepted, first_refusal}
use Rattle.calls.specs.Forecast.{begins, planned_refusal, begins_refusal}
use Rattle.calls.proofs.Histories.{begins_snoc}
use Rattle.calls.proofs.PlannedBegins.{Planned, planned}

pub record ReadSoFar (s : Shape) (bytes begun : List ℕ) (i : ℕ) : Type 0 where
  pub sized : length begun ≡ 8
  pub counts : (k : ℕ) → k < 8 → get_or begun k 0 ≡ begins k (take i (step_records bytes))
  pub left : begins_refusal s [] (step_records bytes) ≡ begins_refusal s (take i (step_records bytes)) (drop i (step_records bytes))

-- record x, the next one, and n, what its test says where it looks at the counts
pub record Tested (s : Shape) (bytes begun : List ℕ) (i : ℕ) (x : StepRecord) (n : Acceptance) : Type 0 where
  pub so_far : ReadSoFar s bytes begun i
  pub more : i < length bytes / 8
  pub is : x ≡ step_record (take 8 (drop (8 * i) bytes))
  pub slot : ill_formed (processes s) x ≡ false → x.process < 8
  pub told : n ≡ planned_refusal s (get_or begun x.process 0) x

module _ (s : Shape) (bytes : List ℕ) where
  pub read_none : ReadSoFar s bytes (replicate 8 0) 0
  unfolding begins
  read_none = record { sized = refl; counts = λ k l. get_or-replicate 8 k 0 0 l; left = refl }

  -- all are read
  pub read_all : (begun : List ℕ) (i : ℕ) → ReadSoFar s bytes begun i → length bytes / 8 ≤ i → Ok tt ≡ begins_refusal s [] (step_records bytes)
  unfolding begins_refusal
  read_all begun i z h = sym (z.left ∙ rw (drop_of_length-le (step_records bytes) {i = i} (omega (arith, records_length bytes))))

-- ---- the next record
module _ {s : Shape} {bytes begun : List ℕ} {i : ℕ} {x : StepRecord} {n : Acceptance} (t : Tested s bytes begun i x n) where
  open t use {so_far as z, more, is, slot, told}

  abbrev rs : List StepRecord
  rs = step_records bytes

  abbrev before : List StepRecord
  before = take i rs

  abbrev k : ℕ
  k = x.process

  there : i < length rs
  there = omega (arith, records_length bytes)

  here : get_or rs i (step_record []) ≡ x
  here = record_at_lem bytes i more ∙ sym is

  first : begins_refusal s [] rs ≡ first_refusal (planned_refusal s (begins k before) x) (begins_refusal s (before ++ (x ∷ [])) (drop (suc i) rs))
  unfolding begins_refusal
  first = z.left ∙ ap (begins_refusal s before) (drop-cons rs i (step_record []) there ∙ ap (λ (r : StepRecord). r ∷ drop (suc i) rs) here)

  -- the counts are those of the records before it
  tested : n ≡ planned_refusal s (begins k before) x
  unfolding planned_refusal
  tested = told ∙ on (ill_formed (processes s) x) refl
    where
      on : (b : Bool) → ill_formed (processes s) x ≡ b → planned_refusal s (get_or begun k 0) x ≡ planned_refusal s (begins k before) x
      on true e = rw e
      on false e = ap (λ (j : ℕ). planned_refusal s j x) (z.counts k (slot e))

  pub read_refused : (x : Refusal) → n ≡ Err x → Err x ≡ begins_refusal s [] rs
  unfolding first_refusal accepted
  read_refused x e = sym (first ∙ rw (← tested, e))

  -- it is not refused, so its process begins one more
  module _ (ok : n ≡ Ok tt) where
    plan : Planned s (begins k before) x
    unfolding accepted
    plan = planned s (begins k before) x (ap accepted (sym tested ∙ ok))

    pub read_slot : k < 8
    read_slot = slot plan.formed

    count : get_or begun k 0 ≡ begins k before
    count = z.counts k read_slot

    pub read_fewer : get_or begun k 0 < s.most
    read_fewer = omega (arith, count, plan.fewer)

    taken : take (i + 1) rs ≡ before ++ (x ∷ [])
    taken = ap (λ (j : ℕ). take j rs) (add-one i) ∙ take-suc rs i (step_record []) there ∙ ap (λ (r : StepRecord). before ++ (r ∷ [])) here

    abbrev begun' : List ℕ
    begun' = set begun k (get_or begun k 0 + 1)

    counted : (j : ℕ) → j < 8 → get_or begun' j 0 ≡ begins j (take (i + 1) rs)
    counted j l = rw (taken, begins_snoc j before x, plan.begins) (on (ℕ_discrete j k))
      where
        on : Dec (j ≡ k) → get_or begun' j 0 ≡ begins j before + (if eqb k j then 1 else 0)
        on (yes e) = rw (e, eq-eqb k k refl) (get_or-set_same begun k (get_or begun k 0 + 1) 0 (omega (arith, z.sized, read_slot)) ∙ ap (λ (c : ℕ). c + 1) count)
        on (no e) = rw (ne_eqb k j (λ w. e (sym w))) (omega (arith, get_or-set_other begun k j (get_or begun k 0 + 1) 0 e, z.counts j l))

    pub read_more : ReadSoFar s bytes begun' (i + 1)
    unfolding first_refusal accepted
    read_more =
        record {
          sized = length-set begun k (get_or begun k 0 + 1) ∙ z.sized;
          counts = counted;
          left = first ∙ rw (← tested, ok, taken, add-one i);
        }
