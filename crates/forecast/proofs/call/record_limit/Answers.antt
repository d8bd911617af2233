-- `call::record_limit` meets its contract.
use native.Mathlib.Omega.{arith}
use Rattle.calls.specs.Demand3.{step_limit}
use Rattle.calls.specs.Forecast.{record_limit}
use Rattle.forecast.proofs.call.record_limit.Goals as goal

pub returns : goal.returns
unfolding record_limit step_limit
returns c = omega arith
