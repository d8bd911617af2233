-- `run::run` meets its contract.
use mathlib.Core.Path.{sym, ◌∙◌}
use Rattle.queue.proofs.RunLaws.{with_claims, run_down}
use Rattle.queue.proofs.run.run.Goals as goal

pub returns-in-Ok : goal.returns-in-Ok
returns-in-Ok c =
    let w = with_claims _ _ _ _ _ _ _ _ c.run_accepted.ensures in
    record { rules = w.0; demand3 = w.1.0; supers = w.1.1.0; numbers = w.1.1.1 }

pub returns-in-Err : goal.returns-in-Err
returns-in-Err c =
    let a = c.args in
    let w =
    with_claims a.p a.l a.records.now a.table.now a.answers.now _ _ _
    (run_down _ _ _ _ _ _ (sym c.in-Err.is ∙ c.of_call.ensures)) in
    record { rules = w.0; demand3 = w.1.0; supers = w.1.1.0; numbers = w.1.1.1 }
