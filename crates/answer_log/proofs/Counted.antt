-- The equal records at the beginning of two logs, when one of them gets more records: what `count_after` says of one
-- more.
use Prim.Native.Nat.{ℕ, suc, ◌+◌, ◌*◌, ◌/◌, ◌≤◌, ◌<◌}
use native.Mathlib.Nat.{suc-add}
use native.Mathlib.Omega.{arith}
use mathlib.Core.Bool.{Bool, true, false, ◌&&◌}
use mathlib.Core.Path.{◌≡◌, refl, ap, sym, ◌∙◌}
use mathlib.Core.List.{List, [], ◌∷◌, ◌++◌, map, map-append}
use lib.ListN.{length, drop, length-map, drop_of_length-le}
use lib.Seq.{drop-cons}
use lib.Dec.{leb, eqb}
use borrow.Author.Tests.{leb-true, leb-false, eqb-true, eqb-false}
use Rattle.std.specs.Prelude.{if◌then◌else◌}
use Rattle.record.specs.declared.AnswerRecord.{AnswerRecord}
use Rattle.record.specs.AnswerRecords.{answer_size, bytes_of_answer}
use Rattle.calls.specs.CheckLog.{same_bytes}
use Rattle.calls.specs.LogVerdict.{record_at}
use Rattle.answer_log.specs.Clauses.Leading.{leading, leading_of, count_after}
use Rattle.encoding.proofs.Cuts.{cut_at}
use Rattle.answer_log.proofs.Cuts.{records_of, records_length, no_record_lem}

-- a record counts, and those after it, only if it is equal
pub counts : (b : Bool) (r n : ℕ) → (if b then suc r else 0) ≡ suc n → (b ≡ true) × (r ≡ n)
counts true r n e = (refl, omega arith)
counts false r n e = absurd (omega arith)

-- after a difference more records count no more
leading_stopped : (xs zs ys : List (List ℕ)) → (leading xs ys ≡ length xs → ⊥) → leading (xs ++ zs) ys ≡ leading xs ys
unfolding leading
leading_stopped [] zs ys h = absurd (h refl)
leading_stopped (x ∷ xs) zs [] h = refl
leading_stopped (x ∷ xs) zs (y ∷ ys) h = on (same_bytes x y) (λ g. leading_stopped xs zs ys g) h
  where
    on : (b : Bool) → ((leading xs ys ≡ length xs → ⊥) → leading (xs ++ zs) ys ≡ leading xs ys)
        → ((if b then suc (leading xs ys) else 0) ≡ suc (length xs) → ⊥)
        → (if b then suc (leading (xs ++ zs) ys) else 0) ≡ (if b then suc (leading xs ys) else 0)
    on true ih h = ap suc (ih (λ e. h (ap suc e)))
    on false ih h = refl

-- while all are equal, more records count as they stand against the rest of the other log
leading_goes_on : (xs zs ys : List (List ℕ)) → leading xs ys ≡ length xs → leading (xs ++ zs) ys ≡ length xs + leading zs (drop (length xs) ys)
unfolding leading
leading_goes_on [] zs ys e = omega arith
leading_goes_on (x ∷ xs) zs [] e = absurd (omega arith)
leading_goes_on (x ∷ xs) zs (y ∷ ys) e =
    let c = counts (same_bytes x y) (leading xs ys) (length xs) e in
    rw (c.0, suc-add) (ap suc (leading_goes_on xs zs ys c.1))

-- ---- the same of answers and of the bytes of a log
pub leading_none : (log : List ℕ) → leading_of [] log ≡ 0
unfolding leading_of leading
leading_none log = refl

module _ (xs : List AnswerRecord) (a : AnswerRecord) (log : List ℕ) where
  -- the log's record behind as many as there are answers
  abbrev next : List ℕ
  next = record_at (length xs) log

  -- after a difference one more answer counts no more
  leading_stays : (leading_of xs log ≡ length xs → ⊥) → leading_of (xs ++ (a ∷ [])) log ≡ leading_of xs log
  unfolding leading_of
  leading_stays h =
      rw (map-append bytes_of_answer xs (a ∷ [])) (leading_stopped (map bytes_of_answer xs) (bytes_of_answer a ∷ []) (records_of log) (λ e. h (e ∙ length-map xs bytes_of_answer)))

  module _ (e : leading_of xs log ≡ length xs) where
    goes_on : leading_of (xs ++ (a ∷ [])) log ≡ length xs + leading (bytes_of_answer a ∷ []) (drop (length xs) (records_of log))
    unfolding leading_of
    goes_on =
        rw (map-append bytes_of_answer xs (a ∷ []), ← length-map xs bytes_of_answer)
        (leading_goes_on (map bytes_of_answer xs) (bytes_of_answer a ∷ []) (records_of log) (e ∙ sym (length-map xs bytes_of_answer)))

    -- where the log has no record left, none is equal
    leading_ended : length log < answer_size * length xs + answer_size → leading_of (xs ++ (a ∷ [])) log ≡ length xs
    unfolding answer_size leading
    leading_ended h =
        let past : length (records_of log) ≤ length xs = omega (arith, records_length log) in
        goes_on ∙ rw (drop_of_length-le (records_of log) past) (omega arith)

    -- where it has one, that record decides
    leading_next : answer_size * length xs + answer_size ≤ length log
        → leading_of (xs ++ (a ∷ [])) log ≡ length xs + (if same_bytes (bytes_of_answer a) next then 1 else 0)
    unfolding answer_size leading record_at
    leading_next h =
        let within : length xs < length log / answer_size = omega arith in
        let there : length xs < length (records_of log) = omega (arith, records_length log) in
        goes_on ∙ rw (drop-cons (records_of log) (length xs) [] there, cut_at answer_size (length log / answer_size) (length xs) log [] within)

    -- one more counts if that record is its bytes, and there it has sixteen
    by_record : (if same_bytes (bytes_of_answer a) next then leading_of xs log + 1 else leading_of xs log) ≡ leading_of (xs ++ (a ∷ [])) log
    by_record = on (leb (answer_size * length xs + answer_size) (length log)) refl
      where
        counted : (b : Bool) → (if b then leading_of xs log + 1 else leading_of xs log) ≡ length xs + (if b then 1 else 0)
        counted true = omega arith
        counted false = omega arith

        on : (b : Bool) → leb (answer_size * length xs + answer_size) (length log) ≡ b
            → (if same_bytes (bytes_of_answer a) next then leading_of xs log + 1 else leading_of xs log) ≡ leading_of (xs ++ (a ∷ [])) log
        on true r = counted (same_bytes (bytes_of_answer a) next) ∙ sym (leading_next (leb-true _ _ r))
        on false r = let h = leb-false _ _ r in rw (no_record_lem log (length xs) a h) (e ∙ sym (leading_ended h))

  pub count_after_lem : count_after log (length xs) (leading_of xs log) a ≡ leading_of (xs ++ (a ∷ [])) log
  unfolding count_after
  count_after_lem = on (eqb (leading_of xs log) (length xs)) refl
    where
      on : (b : Bool) → eqb (leading_of xs log) (length xs) ≡ b
          → (if b && same_bytes (bytes_of_answer a) next then leading_of xs log + 1 else leading_of xs log) ≡ leading_of (xs ++ (a ∷ [])) log
      on true r = by_record (eqb-true _ _ r)
      on false r = sym (leading_stays (eqb-false _ _ r))
