-- The lines that the printing program prints.
use Rattle.std.specs.Prelude.{ℕ, List, [], ◌++◌}
use Rattle.record.specs.declared.Reply.{Reply}
use Rattle.record.specs.declared.Reply.TheVariants.{Done, Value, Nothing}
use Rattle.record.specs.declared.AnswerRecord.{AnswerRecord}
use Rattle.text.specs.Characters.{ascii}
use Rattle.text.specs.Decimal.{number_field}

-- put or take, by the reply
unfoldable pub operation_name : Reply → List ℕ
operation_name Done = ascii "put"
operation_name (Value x) = ascii "take"
operation_name Nothing = ascii "take"

-- for a take the value or none
unfoldable pub reply_field : Reply → List ℕ
reply_field Done = []
reply_field (Value x) = number_field x
reply_field Nothing = ascii " none"

-- process, serial, steps, helps, root block
unfoldable pub number_fields : AnswerRecord → List ℕ
number_fields a =
    number_field a.process
    ++ number_field a.serial
    ++ number_field a.steps
    ++ number_field a.helps
    ++ number_field a.block

-- the line of an answer: put or take, its numbers, and for a take the value or none
unfoldable pub answer_line : AnswerRecord → List ℕ
answer_line a = operation_name a.reply ++ number_fields a ++ reply_field a.reply ++ ascii "\n"

-- the last line: end, refusal number, records taken
unfoldable pub last_line : ℕ → ℕ → List ℕ
last_line refusal taken = ascii "end" ++ number_field refusal ++ number_field taken ++ ascii "\n"

-- what longer input prints alone
unfoldable pub long_line : List ℕ
long_line = ascii "long\n"
