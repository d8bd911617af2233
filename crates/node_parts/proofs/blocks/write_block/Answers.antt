-- `blocks::write_block` meets its contract. The stores are the block written.
use native.Mathlib.Omega.{arith}
use lib.ListN.{length-set}
use Rattle.node_parts.proofs.BlockStores.{block_stored}
use Rattle.node_parts.proofs.blocks.write_block.Goals as goal

pub bounds-part-at-2 : goal.bounds-part-at-2
bounds-part-at-2 c = simp length-set (omega arith)

pub bounds-part-at-3 : goal.bounds-part-at-3
bounds-part-at-3 c = simp length-set (omega arith)

pub bounds-part-at-4 : goal.bounds-part-at-4
bounds-part-at-4 c = simp length-set (omega arith)

pub bounds-part-at-5 : goal.bounds-part-at-5
bounds-part-at-5 c = simp length-set (omega arith)

pub bounds-part-at-6 : goal.bounds-part-at-6
bounds-part-at-6 c = simp length-set (omega arith)

pub bounds-part-at-7 : goal.bounds-part-at-7
bounds-part-at-7 c = simp length-set (omega arith)

pub returns : goal.returns
returns c = block_stored c.args.part.now c.args.i c.args.b
