-- `turn::helps_after` meets its contract.
use Rattle.stepping.proofs.turn.helps_after.Goals as goal

pub returns-then-helped : goal.returns-then-helped
returns-then-helped c = rw c.if-helped.true

pub returns : goal.returns
returns c = rw c.if-helped.false
