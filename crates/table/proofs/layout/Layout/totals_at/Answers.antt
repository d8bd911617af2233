-- `access::Layout::totals_at` meets its contract.
use Rattle.tree.specs.Blocks.{block_at}
use Rattle.table.proofs.layout.Layout.totals_at.Goals as goal

pub returns : goal.returns
unfolding block_at
returns c = rw (← c.part.ensures.part) c.totals_in.ensures
