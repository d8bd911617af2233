-- `block_steps::block_of` meets its contract.
use mathlib.Core.Path.{refl}
use Rattle.steps.specs.Rules.{block_of}
use Rattle.block_steps.proofs.block_of.Goals as goal

pub returns : goal.returns
unfolding block_of
returns c = refl
