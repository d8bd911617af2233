-- `answers::answer_of` meets its contract.
use mathlib.Core.Path.{◌∙◌}
use Rattle.answer.proofs.AtQ.{answer_fits, put_answer, take_answer, take_stands}
use Rattle.answer.proofs.answers.answer_of.Goals as goal

pub answer-requires : goal.answer-requires
answer-requires c = answer_fits c.requires.0.holds

pub standing-at-requires : goal.standing-at-requires
standing-at-requires c = let p = c.requires in take_stands p.0.holds p.1 c.serial-serial.ensures c.in-Take.is

pub answer-requires-in-Take : goal.answer-requires-in-Take
answer-requires-in-Take c = answer_fits c.requires.0.holds

pub returns-in-Put : goal.returns-in-Put
returns-in-Put c = λ ps plays.
    c.answer.ensures ∙ put_answer plays c.requires.1 c.serial-serial.ensures c.in-Put.is c.root_block-block.ensures

pub returns-in-Take : goal.returns-in-Take
returns-in-Take c = λ ps plays.
    c.answer-in-Take.ensures
    ∙ take_answer plays c.requires.1 c.serial-serial.ensures c.in-Take.is c.standing-at.ensures c.take_reply-reply.ensures
