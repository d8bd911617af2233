-- `check_log::check_accepted` meets its contract.
use Rattle.std.proofs.lemmas.Result.{err_from_is_err_and}
use mathlib.Core.Path.{refl}
use Rattle.calls.proofs.CallAccepted.{check_call}
use Rattle.queue.proofs.CheckLaws.{check_few, check_refused, check_compared}
use Rattle.queue.proofs.check_log.check_accepted.Goals as goal

pub play_all-o-requires : goal.play_all-o-requires
play_all-o-requires c = record { call = check_call _ _ _ _ _ c.requires; ones = refl }

pub returns-in_err-o : goal.returns-in_err-o
returns-in_err-o c =
    let p = err_from_is_err_and c.from_residual.result c.from_residual.ensures.1 in
    rw (p.1, p.2) (check_refused c.requires c.play_all-o.ensures _ c.in_err-o.was)

pub verdict-requires : goal.verdict-requires
verdict-requires c =
    check_few c.requires c.play_all-o.ensures c.well_formed.1.1.0.1

pub returns : goal.returns
returns c =
    rw c.verdict.ensures (check_compared c.requires c.play_all-o.ensures c.in_ok-o.was)
