-- An answer record is read from its bytes as the definition says.
use native.Mathlib.Omega.{arith}
use Rattle.encoding.proofs.Numbers.{byte_number}
use Rattle.encoding.proofs.LittleEndian.{word_number}
use Rattle.record.specs.ReadAnswers.{answer_record}
use Rattle.record.proofs.answers.AnswerRecordFromArrayU816.from.Goals as goal

pub returns : goal.returns
unfolding answer_record
returns c =
    let b = c.args.bytes in
    cc (
      byte_number b 0 (omega arith),
      byte_number b 1 (omega arith),
      byte_number b 2 (omega arith),
      byte_number b 3 (omega arith),
      word_number b 4 (omega arith),
      word_number b 8 (omega arith),
      word_number b 12 (omega arith),
    )
