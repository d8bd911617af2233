-- The begin records of a list: how many they are, over all processes and in a part of the list.
use Rattle.std.specs.Prelude.{if◌then◌else◌}
use Prim.Native.Nat.{ℕ, suc, ◌+◌, ◌*◌, ◌≤◌, ◌<◌}
use native.Mathlib.Omega.{arith}
use mathlib.Core.Path.{◌≡◌, refl, ap, sym, ◌∙◌}
use mathlib.Core.Logic.{◌≢◌}
use mathlib.Core.Bool.{Bool, true, false, ◌&&◌}
use mathlib.Core.List.{List, [], ◌∷◌, ◌++◌}
use lib.Dec.{eqb}
use lib.ListN.{length, length-append}
use borrow.Author.Tests.{eq-eqb, ne_eqb}
use Rattle.base.specs.Members.{All}
use Rattle.base.specs.Sums.{sum}
use Rattle.base.proofs.Cases.{both}
use Rattle.base.proofs.Sums.{sum_change, sum_most}
use Rattle.record.specs.declared.StepRecord.{StepRecord}
use Rattle.record.specs.StepRecords.{is_begin}
use Rattle.calls.specs.Forecast.{begins, begin_records}

-- a list of one element or of none
pub one_or_none : {A : Type 0} (b : Bool) (x : A) → length (if b then x ∷ [] else []) ≡ (if b then 1 else 0)
one_or_none true x = refl
one_or_none false x = refl

-- ---- parts of a list
pub begin_records_append : (rs ts : List StepRecord) → begin_records (rs ++ ts) ≡ begin_records rs ++ begin_records ts
unfolding begin_records
begin_records_append [] ts = refl
begin_records_append (r ∷ rs) ts = on (is_begin r) (begin_records_append rs ts)
  where
    on : (b : Bool) → begin_records (rs ++ ts) ≡ begin_records rs ++ begin_records ts
        → (if b then r ∷ begin_records (rs ++ ts) else begin_records (rs ++ ts)) ≡ (if b then r ∷ begin_records rs else begin_records rs) ++ begin_records ts
    on true e = ap (λ (l : List StepRecord). r ∷ l) e
    on false e = e

-- one record more
pub begin_records_snoc : (rs : List StepRecord) (r : StepRecord) → length (begin_records (rs ++ (r ∷ []))) ≡ length (begin_records rs) + (if is_begin r then 1 else 0)
unfolding begin_records
begin_records_snoc rs r = ap length (begin_records_append rs (r ∷ [])) ∙ length-append (begin_records rs) _ ∙ ap (λ (n : ℕ). length (begin_records rs) + n) (one_or_none (is_begin r) r)

-- the first records have no more of them than all
pub begin_records_first : (rs ts : List StepRecord) → length (begin_records rs) ≤ length (begin_records (rs ++ ts))
begin_records_first rs ts = omega (arith, ap length (begin_records_append rs ts), length-append (begin_records rs) (begin_records ts))

pub begin_records_most : (rs : List StepRecord) → length (begin_records rs) ≤ length rs
unfolding begin_records
begin_records_most [] = omega arith
begin_records_most (r ∷ rs) =
    let ih = begin_records_most rs in both (λ (l : List StepRecord). length l ≤ suc (length rs)) (is_begin r) (omega arith) (omega arith)

-- a list of begins is its own
pub begin_records_whole : (rs : List StepRecord) → All (λ r. is_begin r ≡ true) rs → begin_records rs ≡ rs
unfolding begin_records
begin_records_whole [] a = refl
begin_records_whole (r ∷ rs) a = rw a.0 (ap (λ (l : List StepRecord). r ∷ l) (begin_records_whole rs a.1))

-- ---- over the processes

-- those of a process are among them
pub begins_among : (k : ℕ) (rs : List StepRecord) → begins k (begin_records rs) ≡ begins k rs
unfolding begins begin_records
begins_among k [] = refl
begins_among k (r ∷ rs) = on (is_begin r) refl (begins_among k rs)
  where
    on : (b : Bool) → is_begin r ≡ b → begins k (begin_records rs) ≡ begins k rs
        → begins k (if b then r ∷ begin_records rs else begin_records rs) ≡ (if b && eqb r.process k then suc (begins k rs) else begins k rs)
    on true e ih = rw (e, ih)
    on false e ih = ih

-- each is of one process below p
begins_sum : (p : ℕ) (rs : List StepRecord) → All (λ r. r.process < p) rs → sum (λ k. begins k rs) p ≡ length (begin_records rs)
unfolding begins begin_records
begins_sum p [] low = omega (arith, sum_most (λ k. 0) p 0 (λ k l. omega arith))
begins_sum p (r ∷ rs) low = on (is_begin r) refl (begins_sum p rs low.1)
  where
    on : (b : Bool) → is_begin r ≡ b → sum (λ k. begins k rs) p ≡ length (begin_records rs)
        → sum (λ k. if b && eqb r.process k then suc (begins k rs) else begins k rs) p ≡ length (if b then r ∷ begin_records rs else begin_records rs)
    on true e ih =
        let k : ℕ = r.process in
        let counted : ℕ → ℕ = λ j. if eqb k j then suc (begins j rs) else begins j rs in
        let here : counted k ≡ suc (begins k rs) = rw (eq-eqb k k refl) in
        let others : (j : ℕ) → j ≢ k → begins j rs ≡ counted j = λ j ne. rw (ne_eqb k j (λ z. ne (sym z))) in
        omega (arith, ih, here, sum_change (λ j. begins j rs) counted p k low.0 others)
    on false e ih = ih

-- so if none begins more than most, they are at most p × most
pub begins_most : (p most : ℕ) (rs : List StepRecord) → All (λ r. r.process < p) rs → ((k : ℕ) → k < p → begins k rs ≤ most) → length (begin_records rs) ≤ p * most
begins_most p most rs low within = omega (arith, begins_sum p rs low, sum_most (λ k. begins k rs) p most within)
