-- `layout::height_for` meets its contract.
use native.Mathlib.Omega.{arith}
use borrow.Author.Tests.{eq-eqb, ne_eqb}
use Rattle.tree.specs.Shape.{height_for}
use Rattle.table.proofs.layout.height_for.Goals as goal

pub returns-then-p-eq2 : goal.returns-then-p-eq2
unfolding height_for
returns-then-p-eq2 c = (rw (eq-eqb _ _ c.if-p-eq2.true), omega arith, omega arith)

pub returns-then-p-eq4 : goal.returns-then-p-eq4
unfolding height_for
returns-then-p-eq4 c = (rw (ne_eqb _ _ c.if-p-eq2.false, eq-eqb _ _ c.if-p-eq4.true), omega arith, omega arith)

pub returns-else-p-eq4 : goal.returns-else-p-eq4
unfolding height_for
returns-else-p-eq4 c = (rw (ne_eqb _ _ c.if-p-eq2.false, ne_eqb _ _ c.if-p-eq4.false), omega arith, omega arith)
