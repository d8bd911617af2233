-- Answer records: 16 bytes, a process, a kind, own steps, helps, a value, a serial and a root block.
use Rattle.std.specs.Prelude.{ℕ}
use mathlib.Core.List.{List, ◌++◌, flat_map}
use Rattle.record.specs.declared.Reply.{Reply}
use Rattle.record.specs.declared.Reply.TheVariants.{Done, Value, Nothing}
use Rattle.record.specs.declared.AnswerRecord.{AnswerRecord}
use Rattle.encoding.specs.Bytes.{bytes_of}

-- the kinds of an answer: 1 put done, 2 value, 3 none
unfoldable pub reply_kind : Reply → ℕ
reply_kind Done = 1
reply_kind (Value x) = 2
reply_kind Nothing = 3

-- its value, 0 unless the kind is 2
unfoldable pub reply_value : Reply → ℕ
reply_value Done = 0
reply_value (Value x) = x
reply_value Nothing = 0

-- the bytes of an answer record, and how many they are
unfoldable pub answer_size : ℕ
answer_size = 16

unfoldable pub bytes_of_answer : AnswerRecord → List ℕ
bytes_of_answer a =
    bytes_of 1 a.process
    ++ bytes_of 1 (reply_kind a.reply)
    ++ bytes_of 1 a.steps
    ++ bytes_of 1 a.helps
    ++ bytes_of 4 (reply_value a.reply)
    ++ bytes_of 4 a.serial
    ++ bytes_of 4 a.block

-- the log of some answers
unfoldable pub log_bytes : List AnswerRecord → List ℕ
log_bytes xs = flat_map bytes_of_answer xs
