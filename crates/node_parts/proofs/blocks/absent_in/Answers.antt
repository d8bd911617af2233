-- `blocks::absent_in` meets its contract. Both tests are those of the definition.
use borrow.Author.Tests.{eq-eqb, ne_eqb}
use Rattle.tree.specs.Blocks.{word_in, block_in, absent}
use Rattle.node_parts.proofs.blocks.absent_in.Goals as goal

pub returns-then-word_or_zero-eq0 : goal.returns-then-word_or_zero-eq0
unfolding absent block_in word_in
returns-then-word_or_zero-eq0 c =
    rw (← c.word_or_zero.ensures, ← c.word_or_zero-then-word_or_zero-eq0.ensures, eq-eqb _ _ c.if-word_or_zero-eq0.true)

pub returns-else-word_or_zero-eq0 : goal.returns-else-word_or_zero-eq0
unfolding absent block_in word_in
returns-else-word_or_zero-eq0 c = rw (← c.word_or_zero.ensures, ne_eqb _ _ c.if-word_or_zero-eq0.false)
