-- The lines of the first answers in some answer bytes: none, one more, and how long they are.
use Prim.Native.Nat.{ℕ, zero, suc, ◌+◌, ◌*◌, ◌/◌, ◌^◌, ◌≤◌, ◌<◌}
use native.Mathlib.Nat.{mul-zero, add-zero}
use native.Mathlib.Numerals.{add-one}
use native.Mathlib.Omega.{arith}
use mathlib.Core.Path.{◌≡◌, refl, ap, sym, ◌∙◌}
use mathlib.Core.List.{List, [], ◌∷◌, ◌++◌, flat_map, append-nil}
use lib.ListN.{length, take, drop, length-append, take-append-drop}
use lib.Seq.{drop-drop, length-take-le}
use Rattle.base.proofs.Gather.{flat_map-append}
use Rattle.encoding.specs.Bytes.{cut}
use Rattle.record.specs.AnswerRecords.{answer_size}
use Rattle.record.specs.ReadAnswers.{answer_record}
use Rattle.print.specs.Lines.{answer_line, last_line}
use Rattle.print.specs.Printed.{answer_lines}
use Rattle.encoding.proofs.Cuts.{cut_append}
use Rattle.encoding.proofs.ByteNumbers.{Bytes, drop_bytes, take_bytes}
use Rattle.print.proofs.Lengths.{line_most, last_most}

cut_more : (size n : ℕ) (bs : List ℕ) → cut size (suc n) bs ≡ cut size n bs ++ (take size (drop (size * n) bs) ∷ [])
unfolding cut
cut_more size zero bs = rw (mul-zero size)
cut_more size (suc n) bs =
    let e : size + size * n ≡ size * suc n = omega arith in
    ap (λ l. take size bs ∷ l) (cut_more size n (drop size bs) ∙ rw (drop-drop (size * n) size bs, e))

pub lines_none : (answers : List ℕ) → answer_lines answers 0 ≡ []
unfolding answer_lines cut flat_map
lines_none answers = refl

pub lines_more : (answers : List ℕ) (n : ℕ)
    → answer_lines answers (n + 1) ≡ answer_lines answers n ++ answer_line (answer_record (take 16 (drop (16 * n) answers)))
unfolding answer_lines answer_size flat_map
lines_more answers n =
    let part : List ℕ = take 16 (drop (16 * n) answers) in
    let lines : List ℕ → List ℕ = λ bs. answer_line (answer_record bs) in
    rw (add-one n, cut_more 16 n answers, flat_map-append lines (cut 16 n answers) (part ∷ []), append-nil (lines part))

-- in bytes
module _ (answers : List ℕ) (bytes : Bytes answers) where
  pub next_most : (n : ℕ) → length (answer_line (answer_record (take 16 (drop n answers)))) ≤ 50
  next_most n = line_most (take 16 (drop n answers)) (take_bytes 16 (drop n answers) (drop_bytes n answers bytes))

  pub lines_most : (n : ℕ) → length (answer_lines answers n) ≤ 50 * n
  lines_most zero = rw lines_none (omega arith)
  lines_most (suc n) =
      rw (← add-one n, lines_more)
      (omega (arith, length-append (answer_lines answers n) (answer_line (answer_record (take 16 (drop (16 * n) answers)))), lines_most n, next_most (16 * n)))

  pub text_most : (n refusal taken : ℕ) → refusal < 2 ^ 32 → taken < 2 ^ 64 → length (answer_lines answers n) + length (last_line refusal taken) ≤ 50 * n + 36
  text_most n refusal taken h k = omega (arith, lines_most n, last_most refusal taken h k)

-- the first n answers are those of the bytes that they fill
pub lines_front : (answers : List ℕ) (n : ℕ) → 16 * n ≤ length answers
    → answer_lines (take (16 * n) answers) (length (take (16 * n) answers) / 16) ≡ answer_lines answers n
unfolding answer_lines answer_size cut
lines_front answers n h =
    let bytes : List ℕ = take (16 * n) answers in
    let long : length bytes ≡ 16 * n = length-take-le (16 * n) answers h in
    let many : length bytes / 16 ≡ n = omega (arith, long) in
    ap (λ (k : ℕ). answer_lines bytes k) many
    ∙ ap (flat_map (λ (bs : List ℕ). answer_line (answer_record bs)))
    (sym (append-nil (cut 16 n bytes))
    ∙ sym (cut_append 16 n 0 bytes (drop (16 * n) answers) long)
    ∙ rw (add-zero n, take-append-drop (16 * n) answers))
