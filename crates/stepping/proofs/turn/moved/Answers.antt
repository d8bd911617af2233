-- `turn::moved` meets its contract.
use Rattle.stepping.proofs.turn.moved.Goals as goal

pub returns : goal.returns
returns c = rw c.operation_in.ensures
