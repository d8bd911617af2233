-- `build_steps::root_size` meets its contract.
use native.Mathlib.Omega.{arith}
use mathlib.Core.Path.{ap}
use Rattle.tree.specs.declared.Totals.{Totals}
use Rattle.tree.specs.Size.{root_size}
use Rattle.tree.specs.Clauses.Access.{totals_of}
use Rattle.build_steps.proofs.root_size.Goals as goal

pub returns-then-held-taken : goal.returns-then-held-taken
unfolding root_size totals_of
returns-then-held-taken c = λ b e f. omega (arith, ap (λ (t : Totals). t.puts) e, ap (λ (t : Totals). t.takes) e)

pub returns : goal.returns
unfolding root_size totals_of
returns c = λ b e f. omega (arith, ap (λ (t : Totals). t.puts) e, ap (λ (t : Totals). t.takes) e)
