-- How many bytes an answer record, a log and an order record have.
use Prim.Native.Nat.{◌*◌}
use native.Mathlib.Omega.{arith}
use mathlib.Core.Path.{◌≡◌, refl, ◌∙◌}
use mathlib.Core.List.{List, [], ◌∷◌, flat_map}
use lib.ListN.{length, length-append}
use Rattle.encoding.proofs.Lengths.{bytes_length}
use Rattle.record.specs.declared.AnswerRecord.{AnswerRecord}
use Rattle.record.specs.declared.OrderRecord.{OrderRecord}
use Rattle.record.specs.AnswerRecords.{answer_size, bytes_of_answer, log_bytes}
use Rattle.record.specs.OrderRecords.{order_bytes}

pub answer_length : (a : AnswerRecord) → length (bytes_of_answer a) ≡ answer_size
unfolding bytes_of_answer answer_size
answer_length a = simp (length-append, bytes_length)

pub log_length : (xs : List AnswerRecord) → length (log_bytes xs) ≡ answer_size * length xs
unfolding log_bytes flat_map answer_size
log_length [] = refl
log_length (x ∷ xs) = length-append (bytes_of_answer x) (log_bytes xs) ∙ omega (arith, answer_length x, log_length xs)

pub order_record_length : (x : OrderRecord) → length (order_bytes x) ≡ 8
unfolding order_bytes
order_record_length x = simp (length-append, bytes_length)
