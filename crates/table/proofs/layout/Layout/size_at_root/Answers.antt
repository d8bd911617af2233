-- `access::Layout::size_at_root` meets its contract.
use Rattle.tree.specs.Blocks.{block_at}
use Rattle.table.proofs.layout.Layout.size_at_root.Goals as goal

pub returns : goal.returns
unfolding block_at
returns c = rw (← c.part.ensures.part) c.size_in.ensures
