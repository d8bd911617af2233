-- `receive::slot_of` meets its contract.
use native.Mathlib.Nat.{mul-le-mul_left}
use native.Mathlib.Omega.{arith}
use mathlib.Core.Path.{refl}
use Rattle.desk_terms.specs.Clauses.Slots.{slot_of}
use Rattle.desk_terms.proofs.receive.slot_of.Goals as goal

pub overflow_mul-result : goal.overflow_mul-result
overflow_mul-result c = omega (arith, mul-le-mul_left c.args.process c.requires.0)

pub overflow_add-result : goal.overflow_add-result
overflow_add-result c = omega (arith, mul-le-mul_left c.args.process c.requires.0)

pub returns : goal.returns
unfolding slot_of
returns c = refl
