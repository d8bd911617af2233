-- `turn::moved_telling` meets its contract.
use Rattle.steps.specs.Rules.{go_telling}
use Rattle.stepping.proofs.turn.moved_telling.Goals as goal

pub returns : goal.returns
unfolding go_telling
returns c s number k m after = rw (c.operation_in.ensures, c.helps_after.ensures)
