-- An answer record is written as the definition says.
use native.Mathlib.Omega.{arith}
use Rattle.encoding.proofs.LittleEndian.{byte_bytes, word_bytes}
use Rattle.record.specs.AnswerRecords.{reply_kind, reply_value, bytes_of_answer}
use Rattle.record.proofs.answers.ArrayU816FromAnswerRecord.from.Goals as goal

pub returns : goal.returns
unfolding bytes_of_answer
returns c =
    let a = c.args.a in
    rw (
      c.to_le_bytes.ensures,
      c.to_le_bytes-2.ensures,
      c.to_le_bytes-3.ensures,
      c.kind.ensures,
      c.value.ensures,
      ← byte_bytes a.process (omega arith),
      ← byte_bytes (reply_kind a.reply) (omega arith),
      ← byte_bytes a.steps (omega arith),
      ← byte_bytes a.helps (omega arith),
      ← word_bytes (reply_value a.reply),
      ← word_bytes a.serial,
      ← word_bytes a.block,
    )
