-- `blocks::totals_in` meets its contract. Each word read is a word of the block.
use mathlib.Core.Path.{refl}
use Rattle.tree.specs.Blocks.{word_in, block_in}
use Rattle.tree.specs.Clauses.Access.{totals_of}
use Rattle.node_parts.proofs.blocks.totals_in.Goals as goal

pub returns : goal.returns
unfolding totals_of block_in word_in
returns c = refl
