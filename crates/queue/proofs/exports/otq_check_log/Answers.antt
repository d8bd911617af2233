-- `exports::otq_check_log` meets its contract.
use Rattle.queue.proofs.Exporting.{check_told}
use Rattle.queue.proofs.exports.otq_check_log.Goals as goal

pub returns-clause-judges : goal.returns-clause-judges
returns-clause-judges c = check_told _ _ _ _ _ c.check_log.new.table _ _ (c.from.ensures _) c.check_log.ensures.judges
