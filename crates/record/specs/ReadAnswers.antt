-- Answer records, read from their bytes.
use Rattle.std.specs.Prelude.{ℕ, List, take, drop, eqb, if◌then◌else◌}
use Rattle.record.specs.declared.Reply.{Reply}
use Rattle.record.specs.declared.Reply.TheVariants.{Done, Value, Nothing}
use Rattle.record.specs.declared.AnswerRecord.{AnswerRecord}
use Rattle.encoding.specs.Bytes.{number_of}

-- the reply that a kind and a value stand for: 1 put done, 2 value, 3 none, and Run writes no other kind
unfoldable pub reply_for : ℕ → ℕ → Reply
reply_for kind value = if eqb kind 1 then Done else (if eqb kind 2 then Value value else Nothing)

-- the answer record that 16 bytes hold
unfoldable pub answer_record : List ℕ → AnswerRecord
answer_record bs =
    record {
      process = number_of (take 1 bs);
      reply = reply_for (number_of (take 1 (drop 1 bs))) (number_of (take 4 (drop 4 bs)));
      steps = number_of (take 1 (drop 2 bs));
      helps = number_of (take 1 (drop 3 bs));
      serial = number_of (take 4 (drop 8 bs));
      block = number_of (take 4 (drop 12 bs));
    }
