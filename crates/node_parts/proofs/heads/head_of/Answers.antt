-- `heads::head_of` meets its contract.
use Rattle.base.proofs.Entries.{entry}
use Rattle.node_parts.proofs.heads.head_of.Goals as goal

pub returns : goal.returns
returns c = entry c.args.heads.now c.args.v 0 1 c.requires
