-- `access::Layout::block_at` meets its contract.
use Rattle.tree.specs.Blocks.{block_at}
use Rattle.table.proofs.layout.Layout.block_at.Goals as goal

pub returns : goal.returns
unfolding block_at
returns c = rw (← c.part.ensures.part) c.block_in.ensures
