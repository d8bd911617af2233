-- `block_steps::plus_operation` meets its contract.
use Rattle.steps.specs.Rules.{plus_operation}
use Rattle.block_steps.proofs.plus_operation.Goals as goal

pub returns-in-Put : goal.returns-in-Put
unfolding plus_operation
returns-in-Put c = rw c.in-Put.is

pub returns-in-Take : goal.returns-in-Take
unfolding plus_operation
returns-in-Take c = rw c.in-Take.is
