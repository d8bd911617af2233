-- `access::Layout::set_super_at` meets its contract.
use Rattle.tree.specs.Blocks.{block_at}
use Rattle.tree.proofs.NodeParts.{part_between, block_put_back}
use Rattle.table.proofs.layout.Layout.set_super_at.Goals as goal

pub returns : goal.returns
unfolding block_at
returns c =
    let s = c.args.self.now in
    let t = c.args.table.now in
    let e = c.span-from.ensures in
    let n = c.requires.part.node in
    let part = part_between s t c.args.v _ _ (e.start n) (e.end n) in
    rw (c.set_super.ensures, part) (block_put_back s t c.args.v _ _ (e.start n) (e.end n) c.args.i _)
