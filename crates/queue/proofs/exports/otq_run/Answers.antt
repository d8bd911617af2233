-- `exports::otq_run` meets its contract.
use Rattle.queue.proofs.Exporting.{run_counts}
use Rattle.queue.proofs.exports.otq_run.Goals as goal

pub returns-clause-demand3 : goal.returns-clause-demand3
returns-clause-demand3 c ok = let n = run_counts _ _ c.from.ensures in rw (n.0, n.1) (c.run.ensures.demand3 ok)

pub returns-clause-numbers : goal.returns-clause-numbers
returns-clause-numbers c ok = rw (run_counts _ _ c.from.ensures).0 (c.run.ensures.numbers ok)
