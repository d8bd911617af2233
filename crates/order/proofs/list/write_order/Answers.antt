-- `list::write_order` meets its contract.
use native.Mathlib.Omega.{arith}
use mathlib.Core.Path.{◌≡◌}
use Rattle.base.proofs.Gather.{gather_none}
use Rattle.base.proofs.Stored.{stored_none}
use Rattle.order.proofs.Storing.{gathered_room, gathered_more}
use Rattle.order.proofs.WholeList.{last_root_of, list_room, list_stored}
use Rattle.order.proofs.list.write_order.Goals as goal

pub loop-b-init : goal.loop-b-init
loop-b-init c = rw gather_none (stored_none _ _)

pub list_root-end-requires : goal.list_root-end-requires
list_root-end-requires c =
    let l = c.loop-b-test.true in
    gathered_room _ (omega arith) l (last_root_of _ l) (list_room c.requires) c.loop-b.invariant

pub loop-b-preserved : goal.loop-b-preserved
loop-b-preserved c =
    let l = c.loop-b-test.true in
    gathered_more _ (omega arith) l (last_root_of _ l) (list_room c.requires) c.loop-b.invariant c.list_root-end.ensures

pub returns : goal.returns
returns c =
    let e : c.loop-b.b ≡ c.args.last = omega arith in
    list_stored c.requires (rw e at c.loop-b.invariant)
