-- Two logs compared by the equal records at their beginning: the same where these are all of both, and otherwise they
-- differ at the record after them.
use Prim.Native.Nat.{ℕ, suc, ◌+◌, ◌*◌, ◌%◌}
use native.Mathlib.Nat.{add-zero}
use native.Mathlib.Omega.{arith}
use borrow.Author.Tests.{eqb-true, eq-eqb, not-false}
use mathlib.Core.Bool.{Bool, true, false, ◌&&◌}
use mathlib.Core.Path.{◌≡◌, refl, ap, sym, ◌∙◌}
use mathlib.Core.List.{List, [], ◌∷◌, map}
use lib.ListN.{length, length-map}
use lib.Dec.{eqb}
use Rattle.std.specs.Prelude.{if◌then◌else◌}
use Rattle.base.proofs.Cases.{cases, and-true, contradiction}
use Rattle.record.specs.declared.AnswerRecord.{AnswerRecord}
use Rattle.record.specs.AnswerRecords.{answer_size, bytes_of_answer}
use Rattle.calls.specs.declared.Verdict.{Verdict}
use Rattle.calls.specs.declared.Verdict.TheVariants.{Same, Differs}
use Rattle.calls.specs.Refusals.{torn}
use Rattle.calls.specs.CheckLog.{same_bytes, compared}
use Rattle.answer_log.specs.Clauses.Leading.{leading, leading_of, verdict_of}
use Rattle.answer_log.proofs.Cuts.{records_of, records_length}
use Rattle.answer_log.proofs.Counted.{counts}

all_equal : (i : ℕ) (xs ys : List (List ℕ)) → leading xs ys ≡ length xs → length xs ≡ length ys → compared i xs ys ≡ Same
unfolding leading compared
all_equal i [] [] e l = refl
all_equal i [] (y ∷ ys) e l = absurd (omega arith)
all_equal i (x ∷ xs) [] e l = absurd (omega arith)
all_equal i (x ∷ xs) (y ∷ ys) e l =
    let c = counts (same_bytes x y) (leading xs ys) (length xs) e in
    rw c.0 (all_equal (suc i) xs ys c.1 (omega arith))

not_all : (i : ℕ) (xs ys : List (List ℕ)) → (leading xs ys ≡ length xs → length xs ≡ length ys → ⊥) → compared i xs ys ≡ Differs (i + leading xs ys)
unfolding leading compared
not_all i [] [] h = absurd (h refl refl)
not_all i [] (y ∷ ys) h = rw add-zero
not_all i (x ∷ xs) [] h = rw add-zero
not_all i (x ∷ xs) (y ∷ ys) h = on (same_bytes x y) (λ g. not_all (suc i) xs ys g) h
  where
    on : (b : Bool)
        → ((leading xs ys ≡ length xs → length xs ≡ length ys → ⊥) → compared (suc i) xs ys ≡ Differs (suc i + leading xs ys))
        → ((if b then suc (leading xs ys) else 0) ≡ suc (length xs) → suc (length xs) ≡ suc (length ys) → ⊥)
        → (if b then compared (suc i) xs ys else Differs i) ≡ Differs (i + (if b then suc (leading xs ys) else 0))
    on true ih h = ih (λ e l. h (ap suc e) (ap suc l)) ∙ ap Differs (omega arith)
    on false ih h = rw add-zero

-- ---- the same of answers and of the bytes of a log with whole records
module _ (xs : List AnswerRecord) (log : List ℕ) (whole : torn answer_size (length log) ≡ false) where
  records_fill : answer_size * length (records_of log) ≡ length log
  unfolding torn answer_size
  records_fill = omega (arith, eqb-true (length log % answer_size) 0 (not-false (eqb (length log % answer_size) 0) whole), records_length log)

  compared_same : leading_of xs log ≡ length xs → answer_size * length xs ≡ length log → compared 0 (map bytes_of_answer xs) (records_of log) ≡ Same
  unfolding leading_of answer_size
  compared_same e l = all_equal 0 (map bytes_of_answer xs) (records_of log) (e ∙ sym (length-map xs bytes_of_answer)) (omega (arith, records_fill, length-map xs bytes_of_answer))

  compared_differs : (leading_of xs log ≡ length xs → answer_size * length xs ≡ length log → ⊥)
      → compared 0 (map bytes_of_answer xs) (records_of log) ≡ Differs (leading_of xs log)
  unfolding leading_of answer_size
  compared_differs h =
      not_all 0 (map bytes_of_answer xs) (records_of log) (λ e l. h (e ∙ length-map xs bytes_of_answer) (omega (arith, records_fill, length-map xs bytes_of_answer)))
      ∙ ap Differs (omega arith)

  pub verdict_compared : verdict_of (leading_of xs log) (length xs) (length log) ≡ compared 0 (map bytes_of_answer xs) (records_of log)
  unfolding verdict_of
  verdict_compared =
      let same : Bool = eqb (leading_of xs log) (length xs) && eqb (answer_size * length xs) (length log) in
      cases (λ (v : Verdict). v ≡ compared 0 (map bytes_of_answer xs) (records_of log)) same
      (λ t. let both = and-true _ _ t in sym (compared_same (eqb-true _ _ both.0) (eqb-true _ _ both.1)))
      (λ f. sym (compared_differs (λ e l. contradiction same (rw (eq-eqb _ _ e, eq-eqb _ _ l)) f)))
