-- Answer bytes with answers written in them: none, some, and one more.
use Prim.Native.Nat.{ℕ, ◌+◌, ◌*◌, ◌≤◌}
use native.Mathlib.Omega.{arith}
use mathlib.Core.Logic.{◌⊎◌, inl, inr}
use mathlib.Core.Path.{◌≡◌, ap, sym, ◌∙◌}
use mathlib.Core.List.{List, [], ◌∷◌, ◌++◌, flat_map, append-nil, append_assoc}
use lib.ListN.{length, drop, length-append, length-drop}
use lib.Seq.{sets, sets-eq, take-nil, drop-nil, take_all, take_at, drop_at, drop-drop}
use borrow.Author.Tests.{le-leb, lt-leb}
use Rattle.record.specs.declared.AnswerRecord.{AnswerRecord}
use Rattle.record.specs.AnswerRecords.{answer_size, bytes_of_answer, log_bytes}
use Rattle.record.proofs.Lengths.{answer_length, log_length}
use Rattle.answer_log.specs.Clauses.Leading.{written, with_answer}

-- with no answers the bytes are as they were
pub written_none : (out : List ℕ) → written out [] ≡ out
unfolding written log_bytes flat_map answer_size
written_none out = rw (take-nil {A = ℕ} (length out))

-- where there are no bytes, none are written
pub written_nowhere : (out : List ℕ) (xs : List AnswerRecord) → length out ≡ 0 → written out xs ≡ out
unfolding written
written_nowhere [] xs z = drop-nil (answer_size * length xs)
written_nowhere (b ∷ out) xs z = absurd (omega arith)

-- where all answers have room, their log stands first, and the bytes after it are as they were
pub written_fits : (out : List ℕ) (xs : List AnswerRecord) → answer_size * length xs ≤ length out → written out xs ≡ log_bytes xs ++ drop (answer_size * length xs) out
unfolding written
written_fits out xs h = rw (take_all (length out) (log_bytes xs) (rw log_length h))

written_length : (out : List ℕ) (xs : List AnswerRecord) → (length out ≡ 0) ⊎ (answer_size * length xs ≤ length out) → length (written out xs) ≡ length out
written_length out xs (inl z) = ap length (written_nowhere out xs z)
written_length out xs (inr h) = rw (written_fits out xs h) (simp (length-append, length-drop, log_length) (omega arith))

-- the log of one more answer
log_more : (xs : List AnswerRecord) (a : AnswerRecord) → log_bytes (xs ++ (a ∷ [])) ≡ log_bytes xs ++ bytes_of_answer a
unfolding log_bytes flat_map
log_more [] a = append-nil (bytes_of_answer a)
log_more (x ∷ xs) a = ap (λ l. bytes_of_answer x ++ l) (log_more xs a) ∙ sym (append_assoc (bytes_of_answer x) (flat_map bytes_of_answer xs) (bytes_of_answer a))

-- behind a list that stands in the place of n elements, all is as it was
rest_stays : (p out : List ℕ) (n k : ℕ) → length p ≡ n → drop (n + k) (p ++ drop n out) ≡ drop (n + k) out
rest_stays p out n k e = sym (drop-drop k n (p ++ drop n out)) ∙ ap (drop k) (drop_at p (drop n out) n e) ∙ drop-drop k n out

-- one more answer, stored behind the others
written_more : (out : List ℕ) (xs : List AnswerRecord) (a : AnswerRecord) → answer_size * length xs + answer_size ≤ length out
    → sets (written out xs) (answer_size * length xs) (bytes_of_answer a) ≡ written out (xs ++ (a ∷ []))
unfolding answer_size
written_more out xs a h =
    let n : ℕ = answer_size * length xs in
    let more : answer_size * length (xs ++ (a ∷ [])) ≡ n + answer_size = simp length-append (omega arith) in
    let fits : n ≤ length out = omega arith in
    let room : length (written out xs) ≡ length out = written_length out xs (inr fits) in
    sets-eq (bytes_of_answer a) (written out xs) n (omega (arith, answer_length a))
    ∙ rw (
      answer_length a,
      written_fits out xs fits,
      written_fits out (xs ++ (a ∷ [])) (omega arith),
      more,
      log_more,
      take_at (log_bytes xs) (drop n out) n (log_length xs),
      rest_stays (log_bytes xs) out n answer_size (log_length xs),
    )

-- the same, where there are no bytes at all too
pub written_after : (out : List ℕ) (xs : List AnswerRecord) (a : AnswerRecord) → (length out ≡ 0) ⊎ (answer_size * length xs + answer_size ≤ length out)
    → with_answer (written out xs) (length xs) a ≡ written out (xs ++ (a ∷ []))
unfolding with_answer answer_size
written_after out xs a (inl z) =
    rw (lt-leb (answer_size * length xs + answer_size) (length (written out xs)) (omega (arith, written_length out xs (inl z))))
    (written_nowhere out xs z ∙ sym (written_nowhere out (xs ++ (a ∷ [])) z))
written_after out xs a (inr h) =
    rw (le-leb (answer_size * length xs + answer_size) (length (written out xs)) (omega (arith, written_length out xs (inr (omega arith)))))
    (written_more out xs a h)
