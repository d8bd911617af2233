-- `Process::operations_allowed` meets its contract.
use Prim.Native.Nat.{◌≤◌}
use borrow.Author.Tests.{le-leb}
use native.Mathlib.Omega.{arith}
use Rattle.steps.specs.Process.{operations_allowed}
use Rattle.steps.proofs.Process.operations_allowed.Goals as goal

-- l is 0
pub returns-then-l-eq0 : goal.returns-then-l-eq0
unfolding operations_allowed
returns-then-l-eq0 c = simp c.if-l-eq0.true

-- l is at least 1
pub returns : goal.returns
unfolding operations_allowed
returns c = let h : 1 ≤ c.args.l = omega (arith, c.if-l-eq0.false) in simp (le-leb _ _ h)
