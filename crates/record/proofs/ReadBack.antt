-- Answer records and order records whose fields fit their bytes are read as they were written.
use Prim.Native.Nat.{◌^◌, ◌<◌}
use mathlib.Core.Path.{◌≡◌, refl, ap}
use Rattle.encoding.specs.Bytes.{bytes_of, number_of}
use Rattle.encoding.proofs.ReadBack.{number_back}
use Rattle.record.specs.declared.Reply.{Reply}
use Rattle.record.specs.declared.Reply.TheVariants.{Done, Value, Nothing}
use Rattle.record.specs.declared.AnswerRecord.{AnswerRecord}
use Rattle.record.specs.declared.OrderRecord.{OrderRecord}
use Rattle.record.specs.AnswerRecords.{reply_kind, reply_value, bytes_of_answer}
use Rattle.record.specs.ReadAnswers.{reply_for, answer_record}
use Rattle.record.specs.OrderRecords.{order_bytes}
use Rattle.record.specs.ReadOrders.{read_order}

-- the fields fit their bytes
pub record Fitting (a : AnswerRecord) : Type 0 where
  pub process : a.process < 2 ^ 8
  pub steps : a.steps < 2 ^ 8
  pub helps : a.helps < 2 ^ 8
  pub value : reply_value a.reply < 2 ^ 32
  pub serial : a.serial < 2 ^ 32
  pub block : a.block < 2 ^ 32

reply_back : (x : Reply) → reply_value x < 2 ^ 32 → reply_for (number_of (bytes_of 1 (reply_kind x))) (number_of (bytes_of 4 (reply_value x))) ≡ x
unfolding reply_for reply_kind reply_value bytes_of number_of
reply_back Done h = refl
reply_back (Value v) h = ap Value (number_back 4 v h)
reply_back Nothing h = refl

pub record_back : (a : AnswerRecord) → Fitting a → answer_record (bytes_of_answer a) ≡ a
unfolding answer_record bytes_of_answer bytes_of number_of
record_back a f =
    λ i.
    record {
      process = number_back 1 a.process f.process i;
      reply = reply_back a.reply f.value i;
      steps = number_back 1 a.steps f.steps i;
      helps = number_back 1 a.helps f.helps i;
      serial = number_back 4 a.serial f.serial i;
      block = number_back 4 a.block f.block i;
    }

pub record OrderFits (x : OrderRecord) : Type 0 where
  pub process : x.process < 2 ^ 8
  pub kind : x.kind < 2 ^ 8
  pub serial : x.serial < 2 ^ 16
  pub block : x.block < 2 ^ 32

pub order_back : (x : OrderRecord) → OrderFits x → read_order (order_bytes x) ≡ x
unfolding read_order order_bytes bytes_of number_of
order_back x f =
    λ i.
    record {
      process = number_back 1 x.process f.process i;
      kind = number_back 1 x.kind f.kind i;
      serial = number_back 2 x.serial f.serial i;
      block = number_back 4 x.block f.block i;
    }
