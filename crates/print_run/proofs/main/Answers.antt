-- `main` meets its contract.
use native.Mathlib.Omega.{arith}
use lib.ListN.{take, length-take}
use Rattle.print.proofs.Inputs.{read_joined}
use Rattle.print_run.proofs.main.Goals as goal

pub print_input-text-requires : goal.print_input-text-requires
print_input-text-requires c =
    let first = c.read_full-first in
    let after = c.read_next-more in
    let bytes = length-take after.result after.new.next in
    read_joined first.result.now (omega arith) (take after.result after.new.next) (omega (arith, bytes))
    (λ short. omega (arith, bytes, (after.ensures.value short).0))
