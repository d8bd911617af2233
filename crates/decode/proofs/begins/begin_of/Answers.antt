-- `begins::begin_of` meets its contract.
use mathlib.Core.Path.{◌∙◌}
use Rattle.decode.proofs.BeginWords.{begin_none, begin_put_lem, begin_valued, begin_take_lem}
use Rattle.decode.proofs.begins.begin_of.Goals as goal

pub returns-then-first-lt256 : goal.returns-then-first-lt256
returns-then-first-lt256 c r byte kind word is = begin_none _ r byte kind word is c.requires.0 c.if-first-lt256.true

pub returns-then-first-lt512 : goal.returns-then-first-lt512
returns-then-first-lt512 c r byte kind word is = c.begin_by.ensures ∙ begin_put_lem _ r byte kind word is c.if-first-lt256.false c.if-first-lt512.true

pub returns-then-value-ne0 : goal.returns-then-value-ne0
returns-then-value-ne0 c r byte kind word is = begin_valued _ r byte kind word is c.if-first-lt512.false c.if-value-ne0.true

pub returns : goal.returns
returns c r byte kind word is =
    c.begin_by-2.ensures ∙ begin_take_lem _ r byte kind word is c.requires.1 c.if-first-lt512.false c.if-value-ne0.false
