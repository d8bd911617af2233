-- The verdict of check a log tells exactly whether a log is that of the rules, and if not, at which record they first
-- differ.
use Rattle.std.specs.Prelude.{Ok, Err}
use Rattle.std.specs.Result.{result_and}
use Prim.Native.Nat.{ℕ, zero, suc, ◌+◌, ◌*◌, ◌/◌, ◌%◌, ◌≤◌, ◌<◌}
use native.Mathlib.Omega.{arith}
use native.Mathlib.Nat.{add-zero, zero-add}
use mathlib.Core.Bool.{true, false}
use mathlib.Core.Logic.{◌⊎◌, inl, inr}
use mathlib.Core.Path.{◌≡◌, refl, ap, sym, ◌∙◌, subst}
use mathlib.Core.List.{List, [], ◌∷◌, ◌++◌, map, flat_map}
use lib.ListN.{length, take, drop, take-append-drop, length-append, length-drop}
use lib.Seq.{take_at, take-append-add, drop-append-add, length-take-le}
use lib.Dec.{eqb}
use borrow.Author.Tests.{eqb-true, not-false}
use Rattle.base.proofs.Cases.{cases, contradiction}
use Rattle.record.specs.declared.AnswerRecord.{AnswerRecord}
use Rattle.encoding.specs.Bytes.{cut}
use Rattle.record.specs.StepRecords.{step_records}
use Rattle.record.specs.AnswerRecords.{answer_size, bytes_of_answer, log_bytes}
use Rattle.record.proofs.Lengths.{answer_length}
use Rattle.encoding.proofs.Numbers.{inner_part}
use Rattle.calls.specs.declared.Verdict.{Verdict}
use Rattle.calls.specs.declared.Verdict.TheVariants.{Same, Differs}
use Rattle.calls.specs.Refusals.{Acceptance, accepted, torn}
use Rattle.tree.specs.Shape.{shape_for}
use Rattle.calls.specs.Run.{Played}
use Rattle.calls.specs.ListOrder.{play_all}
use Rattle.calls.specs.CheckLog.{CheckResult, same_bytes, compared, verdict_number, verdict_index, check_refusal, checked, check_turned_down, verdict_on, check_played, check_log}
use Rattle.calls.specs.LogVerdict.{log_of_rules, NoRefusal, record_at, DifferFirst, Judges}
use Rattle.calls.proofs.SameBytes.{same_equal, itself_same}
use Rattle.calls.proofs.Acceptance.{accepted_zero, zero_accepted}
use Rattle.calls.proofs.CallAccepted.{check_whole}

-- ---- where two logs differ first

-- behind an equal record, one record later
later : (i : ℕ) (h xs ys : List ℕ) → length h ≡ answer_size → DifferFirst i xs ys → DifferFirst (suc i) (h ++ xs) (h ++ ys)
unfolding record_at
later i h xs ys e d =
    let n : answer_size * suc i ≡ length h + answer_size * i = omega arith in
    record {
      before = rw (n, take-append-add h xs (answer_size * i), take-append-add h ys (answer_size * i)) (ap (λ (l : List ℕ). h ++ l) d.before);
      here = λ same. d.here (rw (n, drop-append-add h xs (answer_size * i), drop-append-add h ys (answer_size * i)) at same);
    }

-- the records before it are equal
before_equal : (i j : ℕ) (xs ys : List ℕ) → i < j → DifferFirst j xs ys → record_at i xs ≡ record_at i ys
unfolding record_at answer_size
before_equal i j xs ys h d =
    sym (inner_part answer_size (answer_size * i) (answer_size * j) xs (omega arith))
    ∙ ap (λ (l : List ℕ). take answer_size (drop (answer_size * i) l)) d.before
    ∙ inner_part answer_size (answer_size * i) (answer_size * j) ys (omega arith)

-- so there is one such record
one_first : (i j : ℕ) (xs ys : List ℕ) → DifferFirst i xs ys → DifferFirst j xs ys → i ≡ j
one_first i j xs ys a b =
    let not-less : i < j → ⊥ = λ h. a.here (before_equal i j xs ys h b) in
    let not_more : j < i → ⊥ = λ h. b.here (before_equal j i xs ys h a) in
    omega arith

-- ---- two logs compared: the same and equal, or different at the record that they first differ in

pub record DiffersBy (j : ℕ) (own log : List ℕ) (v : Verdict) : Type 0 where
  pub index : ℕ
  pub told : v ≡ Differs (j + index)
  pub first : DifferFirst index own log

abbrev Compared : ℕ → List ℕ → List ℕ → Verdict → Type 0
Compared j own log v = ((v ≡ Same) × (log ≡ own)) ⊎ DiffersBy j own log v

-- at once, where one has no record or another one
at_once : (j : ℕ) (own log : List ℕ) → (record_at 0 own ≡ record_at 0 log → ⊥) → DiffersBy j own log (Differs j)
unfolding answer_size
at_once j own log d = record { index = 0; told = rw add-zero; first = record { before = refl; here = d } }

empty : (log : List ℕ) → length log ≡ 0 → log ≡ []
empty [] e = refl
empty (b ∷ log) e = absurd (omega arith)

-- the first record of a log, and of one that has none
first_record : (h rest : List ℕ) → length h ≡ answer_size → record_at 0 (h ++ rest) ≡ h
unfolding record_at answer_size
first_record h rest e = take_at h rest answer_size e

some_record : (log : List ℕ) → answer_size ≤ length log → length (record_at 0 log) ≡ answer_size
unfolding record_at answer_size
some_record log h = length-take-le answer_size log h

no_record_lem : length (record_at 0 []) ≡ 0
unfolding record_at answer_size
no_record_lem = refl

-- a log that has records, and one that has none
lacking : (log : List ℕ) → answer_size ≤ length log → record_at 0 [] ≡ record_at 0 log → ⊥
unfolding answer_size
lacking log h same = omega (arith, ap length same, some_record log h, no_record_lem)

module _ (j : ℕ) (x : AnswerRecord) (xs : List AnswerRecord) (log : List ℕ) (v : Verdict) (enough : answer_size ≤ length log) where
  rejoined : take answer_size log ++ drop answer_size log ≡ log
  rejoined = take-append-drop answer_size log

  -- an equal record, and what the rest comes to
  goes_on : bytes_of_answer x ≡ take answer_size log → Compared (suc j) (log_bytes xs) (drop answer_size log) v → Compared j (bytes_of_answer x ++ log_bytes xs) log v
  goes_on e (inl (same, rest)) = inl (same, sym rejoined ∙ ap (λ (l : List ℕ). take answer_size log ++ l) rest ∙ ap (λ (l : List ℕ). l ++ log_bytes xs) (sym e))
  goes_on e (inr d) =
      let both : bytes_of_answer x ++ drop answer_size log ≡ log = ap (λ (l : List ℕ). l ++ drop answer_size log) e ∙ rejoined in
      inr record {
        index = suc d.index;
        told = d.told ∙ ap Differs (omega arith);
        first = subst (DifferFirst (suc d.index) (bytes_of_answer x ++ log_bytes xs)) both (later d.index (bytes_of_answer x) (log_bytes xs) (drop answer_size log) (answer_length x) d.first);
      }

  -- another record
  unequal : same_bytes (bytes_of_answer x) (take answer_size log) ≡ false → record_at 0 (bytes_of_answer x ++ log_bytes xs) ≡ record_at 0 log → ⊥
  unfolding record_at answer_size
  unequal f same =
      let is : bytes_of_answer x ≡ take answer_size log = sym (first_record (bytes_of_answer x) (log_bytes xs) (answer_length x)) ∙ same in
      contradiction (same_bytes (bytes_of_answer x) (take answer_size log)) (subst (λ (l : List ℕ). same_bytes (bytes_of_answer x) l ≡ true) is (itself_same (bytes_of_answer x))) f

compared_as : (j : ℕ) (xs : List AnswerRecord) (k : ℕ) (log : List ℕ) → length log ≡ answer_size * k
    → Compared j (log_bytes xs) log (compared j (map bytes_of_answer xs) (cut answer_size k log))
unfolding compared cut log_bytes flat_map answer_size
compared_as j [] zero log e = inl (refl, empty log e)
compared_as j [] (suc k) log e = inr (at_once j [] log (lacking log (omega arith)))
compared_as j (x ∷ xs) zero log e =
    let some : answer_size ≤ length (bytes_of_answer x ++ log_bytes xs) = simp length-append (omega (arith, answer_length x)) in
    inr (at_once j (bytes_of_answer x ++ log_bytes xs) log (λ same. lacking (bytes_of_answer x ++ log_bytes xs) some (sym (same ∙ ap (record_at 0) (empty log e)))))
compared_as j (x ∷ xs) (suc k) log e =
    let enough : answer_size ≤ length log = omega arith in
    let rest : Verdict = compared (suc j) (map bytes_of_answer xs) (cut answer_size k (drop answer_size log)) in
    cases (Compared j (bytes_of_answer x ++ log_bytes xs) log) (same_bytes (bytes_of_answer x) (take answer_size log))
    (λ t. goes_on j x xs log rest enough (same_equal (bytes_of_answer x) (take answer_size log) t) (compared_as (suc j) xs k (drop answer_size log) (simp length-drop (omega arith))))
    (λ f. inr (at_once j (bytes_of_answer x ++ log_bytes xs) log (unequal j x xs log rest enough f)))

-- ---- the verdict
module _ (p l words : ℕ) (records log : List ℕ) where
  abbrev own : List ℕ
  own = log_of_rules p l records

  judges_compared : (v : Verdict) → NoRefusal p l words records log → Compared 0 own log v → Judges p l words records log (verdict_number (Ok v)) (verdict_index (Ok v))
  unfolding verdict_number verdict_index
  judges_compared v none (inl (e, q)) =
      rw e
      record {
        same = (λ z. (none, q), λ z. refl);
        differs = λ i. (λ z. absurd (omega (arith, z.0)), λ z. absurd (z.1.here (ap (record_at i) (sym q))));
      }
  judges_compared v none (inr d) =
      rw d.told
      record {
        same = (λ z. absurd (omega (arith, z)), λ z. absurd (d.first.here (ap (record_at d.index) (sym z.1))));
        differs =
            λ i. (
              λ z. (none, subst (λ (k : ℕ). DifferFirst k own log) (sym (zero-add d.index) ∙ z.1) d.first),
              λ z. (refl, zero-add d.index ∙ one_first d.index i own log d.first z.1),
            );
      }

  judges_refused : (NoRefusal p l words records log → ⊥) → Judges p l words records log 2 0
  judges_refused some =
      record {
        same = (λ z. absurd (omega (arith, z)), λ z. absurd (some z.0));
        differs = λ i. (λ z. absurd (omega (arith, z.0)), λ z. absurd (some z.0));
      }

module _ (p l : ℕ) (records log table : List ℕ) where
  abbrev call : Acceptance
  call = check_refusal p l (length table) (length records) (length log)

  abbrev all : Played
  all = play_all (shape_for p l) (step_records records)

  whole : accepted call ≡ true → length log ≡ answer_size * (length log / answer_size)
  unfolding torn answer_size
  whole ok =
      omega (arith, eqb-true (length log % answer_size) 0 (not-false (eqb (length log % answer_size) 0) (check_whole p l (length table) (length records) (length log) ok)))

  judges_played : accepted call ≡ true → Judges p l (length table) records log (verdict_number (verdict_on all log)) (verdict_index (verdict_on all log))
  unfolding verdict_on verdict_number verdict_index log_of_rules accepted
  judges_played ok = on all.refusal refl
    where
      found : Verdict
      found = compared 0 (map bytes_of_answer all.answers) (cut answer_size (length log / answer_size) log)

      on : (n : Acceptance) → all.refusal ≡ n
          → Judges p l (length table) records log (verdict_number (result_and n (Ok found))) (verdict_index (result_and n (Ok found)))
      on (Ok x) e =
          judges_compared p l (length table) records log found
          (record { call = zero_accepted call ok; list = zero_accepted all.refusal (ap accepted e) })
          (compared_as 0 all.answers (length log / answer_size) log (whole ok))
      on (Err n) e =
          judges_refused p l (length table) records log
          (λ none. contradiction (accepted all.refusal) (accepted_zero all.refusal none.list) (ap accepted e))

  pub check_judges : Judges p l (length table) records log (check_log p l records log table).verdict (check_log p l records log table).index
  unfolding check_log check_played checked check_turned_down
  check_judges =
      cases (λ (e : CheckResult). Judges p l (length table) records log e.verdict e.index) (accepted call)
      (λ ok. judges_played ok)
      (λ down. judges_refused p l (length table) records log (λ none. contradiction (accepted call) (accepted_zero call none.call) down))
