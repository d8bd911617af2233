-- `list_order::list_order` meets its contract.
use Rattle.std.proofs.lemmas.Result.{err_from_is_err_and}
use mathlib.Core.Path.{sym, ◌∙◌}
use Rattle.queue.proofs.ListLaws.{list_down}
use Rattle.queue.proofs.list_order.list_order.Goals as goal

pub returns-in_err-of_call : goal.returns-in_err-of_call
returns-in_err-of_call c =
    let p = err_from_is_err_and c.from_residual.result c.from_residual.ensures.1 in
    rw (p.1, p.2) (list_down _ _ _ _ _ _ (sym c.in_err-of_call.was ∙ c.of_call.ensures))
