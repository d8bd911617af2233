-- `blocks::total` meets its contract.
use Rattle.tree.specs.Order.{total}
use Rattle.node_parts.proofs.blocks.total.Goals as goal

pub returns-in-Puts : goal.returns-in-Puts
unfolding total
returns-in-Puts c = rw c.in-Puts.is

pub returns-in-Takes : goal.returns-in-Takes
unfolding total
returns-in-Takes c = rw c.in-Takes.is
