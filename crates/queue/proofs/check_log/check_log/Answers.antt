-- `check_log::check_log` meets its contract.
use Rattle.std.proofs.lemmas.Result.{err_from_is_err_and}
use mathlib.Core.Path.{sym, ◌∙◌}
use Rattle.queue.proofs.CheckLaws.{with_judges, check_down}
use Rattle.queue.proofs.check_log.check_log.Goals as goal

pub returns-in_err-of_check : goal.returns-in_err-of_check
returns-in_err-of_check c =
    let a = c.args in
    let p = err_from_is_err_and c.from_residual.result c.from_residual.ensures.1 in
    let w =
    with_judges a.p a.l a.records.now a.log.now a.table.now _ _
    (rw (p.1, p.2) (check_down _ _ _ _ _ _ (sym c.in_err-of_check.was ∙ c.of_check.ensures))) in
    record { rules = w.0; judges = w.1 }

pub returns : goal.returns
returns c =
    let w = with_judges _ _ _ _ _ _ _ c.check_accepted.ensures in
    record { rules = w.0; judges = w.1 }
