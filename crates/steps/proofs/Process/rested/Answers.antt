-- `Process::rested` meets its contract.
use mathlib.Core.Path.{refl}
use Rattle.steps.specs.Clauses.Operations.{rested}
use Rattle.steps.proofs.Process.rested.Goals as goal

pub returns : goal.returns
unfolding rested
returns c = refl
