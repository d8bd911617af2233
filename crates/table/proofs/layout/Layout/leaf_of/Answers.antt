-- `layout::Layout::leaf_of` meets its contract.
use native.Mathlib.Omega.{arith}
use Rattle.tree.specs.Shape.{leaf_of}
use Rattle.table.proofs.layout.Layout.leaf_of.Goals as goal

pub returns : goal.returns
unfolding leaf_of
returns c = (omega arith, omega arith)
