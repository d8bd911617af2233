-- `blocks::size_in` meets its contract.
use mathlib.Core.Path.{refl}
use Rattle.tree.specs.Blocks.{word_in, block_in}
use Rattle.node_parts.proofs.blocks.size_in.Goals as goal

pub returns : goal.returns
unfolding block_in word_in
returns c = refl
