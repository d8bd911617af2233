-- `list::list_root` meets its contract.
use mathlib.Core.Path.{refl}
use Rattle.order.proofs.Storing.{room_first, room_second, stored_both}
use Rattle.order.proofs.RootRecords.{root_parts}
use Rattle.order.proofs.list.list_root.Goals as goal

pub list_block-next-requires : goal.list_block-next-requires
list_block-next-requires c = rw c.height.ensures.0 (room_first (root_parts _ _ _) c.requires)

pub list_block-requires : goal.list_block-requires
list_block-requires c =
    let one = rw c.height.ensures.0 at c.list_block-next.ensures in
    rw c.height.ensures.0 (room_second (root_parts _ _ _) c.requires refl one)

pub returns : goal.returns
returns c =
    let h = c.height.ensures.0 in
    stored_both (root_parts _ _ _) c.requires refl (rw h at c.list_block-next.ensures) (rw h at c.list_block.ensures)
