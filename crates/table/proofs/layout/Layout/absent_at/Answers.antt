-- `access::Layout::absent_at` meets its contract.
use mathlib.Core.Path.{◌∙◌}
use Rattle.tree.specs.Blocks.{block_at}
use Rattle.tree.proofs.NodeParts.{part_between}
use Rattle.table.proofs.Rest.{lacking_absent}
use Rattle.table.proofs.layout.Layout.absent_at.Goals as goal

pub returns-clause-value : goal.returns-clause-value
unfolding block_at
returns-clause-value c = λ n.
    let e = c.span-from.ensures in
    rw (← part_between c.args.self.now c.args.table.now c.args.v _ _ (e.start n) (e.end n)) c.absent_in.ensures

pub returns-clause-lacking : goal.returns-clause-lacking
returns-clause-lacking c = λ n.
    let e = c.span-from.ensures.lacking n in
    c.absent_in.ensures ∙ lacking_absent c.args.table.now _ _ _ c.args.i e.0 e.1
