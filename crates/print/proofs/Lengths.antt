-- How many bytes the lines have.
use Prim.Native.Nat.{ℕ, ◌+◌, ◌^◌, ◌≤◌, ◌<◌}
use native.Mathlib.Omega.{arith}
use mathlib.Core.Path.{◌≡◌}
use mathlib.Core.List.{List}
use lib.Dec.{eqb}
use lib.ListN.{length, take, drop, length-append}
use Rattle.base.proofs.Cases.{both}
use Rattle.record.specs.declared.Reply.{Reply}
use Rattle.record.specs.declared.Reply.TheVariants.{Done, Value, Nothing}
use Rattle.record.specs.declared.AnswerRecord.{AnswerRecord}
use Rattle.encoding.specs.Bytes.{number_of}
use Rattle.encoding.proofs.ByteNumbers.{Bytes, drop_bytes, bytes_below}
use Rattle.text.specs.Characters.{ascii}
use Rattle.text.specs.Decimal.{number_field}
use Rattle.text.proofs.Digits.{byte_most, word_most, index_most}
use Rattle.record.specs.ReadAnswers.{reply_for, answer_record}
use Rattle.print.specs.Lines.{operation_name, number_fields, reply_field, answer_line, last_line}

-- ---- part by part
pub numbers_length : (a : AnswerRecord) → length (number_fields a)
    ≡ length (number_field a.process) + length (number_field a.serial) + length (number_field a.steps) + length (number_field a.helps) + length (number_field a.block)
unfolding number_fields
numbers_length a = simp length-append

pub line_length : (a : AnswerRecord) → length (answer_line a)
    ≡ length (operation_name a.reply) + length (number_fields a) + length (reply_field a.reply) + 1
unfolding answer_line ascii
line_length a = simp length-append

pub last_length : (refusal taken : ℕ) → length (last_line refusal taken) ≡ 3 + length (number_field refusal) + length (number_field taken) + 1
unfolding last_line ascii
last_length refusal taken = simp length-append (omega arith)

-- ---- at most
operation_most : (x : Reply) → length (operation_name x) ≤ 4
unfolding operation_name ascii
operation_most Done = omega arith
operation_most (Value v) = omega arith
operation_most Nothing = omega arith

reply_most : (kind value : ℕ) → value < 2 ^ 32 → length (reply_field (reply_for kind value)) ≤ 11
unfolding reply_for reply_field ascii
reply_most kind value h =
    both (λ x. length (reply_field x) ≤ 11) (eqb kind 1) (omega arith)
    (both (λ x. length (reply_field x) ≤ 11) (eqb kind 2) (word_most value h) (omega arith))

pub last_most : (refusal taken : ℕ) → refusal < 2 ^ 32 → taken < 2 ^ 64 → length (last_line refusal taken) ≤ 36
last_most refusal taken h k = omega (arith, last_length refusal taken, word_most refusal h, index_most taken k)

-- the line of an answer record in bytes
module _ (bs : List ℕ) (bytes : Bytes bs) where
  field_below : (k n : ℕ) → number_of (take n (drop k bs)) < 256 ^ n
  field_below k n = bytes_below n (drop k bs) (drop_bytes k bs bytes)

  pub line_most : length (answer_line (answer_record bs)) ≤ 50
  unfolding answer_record
  line_most =
      let a = answer_record bs in
      omega (
        arith,
        line_length a,
        operation_most a.reply,
        numbers_length a,
        byte_most a.process (omega (arith, bytes_below 1 bs bytes)),
        word_most a.serial (omega (arith, field_below 8 4)),
        byte_most a.steps (omega (arith, field_below 2 1)),
        byte_most a.helps (omega (arith, field_below 3 1)),
        word_most a.block (omega (arith, field_below 12 4)),
        reply_most (number_of (take 1 (drop 1 bs))) (number_of (take 4 (drop 4 bs))) (field_below 4 4),
      )
