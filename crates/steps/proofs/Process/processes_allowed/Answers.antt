-- `Process::processes_allowed` meets its contract.
use borrow.Author.Tests.{eq-eqb, ne_eqb}
use Rattle.steps.specs.Process.{processes_allowed}
use Rattle.steps.proofs.Process.processes_allowed.Goals as goal

-- p is 2
pub returns-then-p-eq2 : goal.returns-then-p-eq2
unfolding processes_allowed
returns-then-p-eq2 c = simp (eq-eqb _ _ c.if-p-eq2.true)

-- p is 4
pub returns-then-p-eq4 : goal.returns-then-p-eq4
unfolding processes_allowed
returns-then-p-eq4 c = simp (ne_eqb _ _ c.if-p-eq2.false, eq-eqb _ _ c.if-p-eq4.true)

-- p is neither
pub returns : goal.returns
unfolding processes_allowed
returns c = simp (ne_eqb _ _ c.if-p-eq2.false, ne_eqb _ _ c.if-p-eq4.false)
