-- `roots::list_length` meets its contract.
use native.Mathlib.Omega.{arith}
use Rattle.order.proofs.LastBlock.{root_small, last_place_lem, last_counts}
use Rattle.order.proofs.roots.list_length.Goals as goal

pub block_at-block-requires : goal.block_at-block-requires
block_at-block-requires c = let g = c.requires.holds in rw g.last (last_place_lem g.tree)

pub returns : goal.returns
returns c =
    let e = c.block_at-block.ensures in
    let g = c.requires.holds in
    (rw e (omega (arith, root_small g.tree c.args.last)), rw (e, g.last, last_counts g.tree))
