-- `blocks::set_super` meets its contract. A store of one word is the block written with that word changed, and no store
-- is the block written back.
use Rattle.node_parts.proofs.BlockStores.{super_stored, super_kept}
use Rattle.node_parts.proofs.blocks.set_super.Goals as goal

pub returns-then-part-at-eq0 : goal.returns-then-part-at-eq0
returns-then-part-at-eq0 c = super_stored c.args.part.now c.args.i c.args.x c.if-part-at-eq0.true

pub returns-else-part-at-eq0 : goal.returns-else-part-at-eq0
returns-else-part-at-eq0 c = super_kept c.args.part.now c.args.i c.args.x c.if-part-at-eq0.false
