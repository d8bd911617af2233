-- `Process::start` meets its contract.
use mathlib.Core.Path.{refl}
use Rattle.steps.specs.Process.{idle}
use Rattle.steps.proofs.Process.start.Goals as goal

pub returns : goal.returns
unfolding idle
returns c = refl
