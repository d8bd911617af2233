-- One name for all definitions of this crate, for proofs by computation: what unfolds it unfolds them.
use mathlib.Core.List.{flat_map}
use Rattle.encoding.specs.All.{encodings}
use Rattle.record.specs.StepRecords.{step_size, is_step, is_begin, is_begin_put, step_record, step_records, ill_formed}
use Rattle.record.specs.AnswerRecords.{reply_kind, reply_value, answer_size, bytes_of_answer, log_bytes}
use Rattle.record.specs.OrderRecords.{order_bytes}

unfoldable pub records : Unit {0}
unfolding flat_map encodings step_size is_step is_begin is_begin_put step_record step_records ill_formed reply_kind
    reply_value answer_size bytes_of_answer log_bytes order_bytes
records = tt
