-- `layout::Layout::part` meets its contract.
use Rattle.tree.proofs.NodeParts.{part_between}
use Rattle.table.proofs.layout.Layout.part.Goals as goal

pub returns-clause-part : goal.returns-clause-part
returns-clause-part c =
    let e = c.span-from.ensures in
    let n = c.requires.node in
    part_between c.args.self.now c.args.table.now c.args.v c.span-from.result.0 c.span-from.result.1 (e.start n) (e.end n)
