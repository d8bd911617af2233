-- `list_order::list_accepted` meets its contract.
use Rattle.std.proofs.lemmas.Result.{err_from_is_err_and}
use Rattle.queue.proofs.ListLaws.{list_refused, list_listing, list_left_lem}
use Rattle.queue.proofs.list_order.list_accepted.Goals as goal

pub returns-in_err-o : goal.returns-in_err-o
returns-in_err-o c =
    let p = err_from_is_err_and c.from_residual.result c.from_residual.ensures.1 in
    rw (p.1, p.2) (list_refused c.requires c.play_all-o.ensures _ _ c.in_err-o.was)

pub write_list-requires : goal.write_list-requires
write_list-requires c =
    list_listing c.requires c.play_all-o.ensures

pub returns : goal.returns
returns c =
    list_left_lem c.requires c.play_all-o.ensures c.write_list.result _ _ c.in_ok-o.was c.write_list.ensures
