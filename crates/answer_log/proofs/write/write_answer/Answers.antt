-- `write::write_answer` meets its contract.
use mathlib.Core.Path.{◌∙◌}
use borrow.Author.Tests.{le-leb, lt-leb}
use Rattle.base.proofs.Stored.{stored_part}
use Rattle.record.specs.AnswerRecords.{answer_size}
use Rattle.record.proofs.Lengths.{answer_length}
use Rattle.answer_log.specs.Clauses.Leading.{with_answer}
use Rattle.answer_log.proofs.write.write_answer.Goals as goal

pub returns-then-at-out : goal.returns-then-at-out
unfolding with_answer answer_size
returns-then-at-out c =
    let stored = stored_part _ _ _ 16 _ c.if-at-out.true (answer_length c.args.a) (c.copy_from_slice.ensures.after ∙ c.from.ensures) in
    rw (le-leb _ _ c.if-at-out.true) stored.bytes

pub returns-else-at-out : goal.returns-else-at-out
unfolding with_answer answer_size
returns-else-at-out c = rw (lt-leb _ _ c.if-at-out.false)
