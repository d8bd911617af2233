-- `sequence::after_refresh` meets its contract.
use Rattle.steps.specs.Rules.{after_failed, after_refresh}
use Rattle.stepping.proofs.sequence.after_refresh.Goals as goal

-- it succeeded
pub returns-then-success : goal.returns-then-success
unfolding after_refresh
returns-then-success c = rw c.if-success.true

-- it failed for the first time
pub returns-in-First : goal.returns-in-First
unfolding after_refresh after_failed
returns-in-First c = rw (c.if-success.false, c.in-First.is)

-- it failed for the second time
pub returns-in-Second : goal.returns-in-Second
unfolding after_refresh after_failed
returns-in-Second c = rw (c.if-success.false, c.in-Second.is)
