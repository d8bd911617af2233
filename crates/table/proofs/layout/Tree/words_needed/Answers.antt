-- `layout::Tree::words_needed` meets its contract. The products are small, since each factor is.
use native.Mathlib.Omega.{arith}
use Rattle.tree.specs.Layout.{words_needed}
use Rattle.tree.proofs.LayoutSums.{places_most}
use Rattle.table.proofs.layout.Tree.words_needed.Goals as goal

pub returns : goal.returns
unfolding words_needed
returns c = (
  rw (c.processes-p.ensures.0, ← c.self.view_is),
  omega (arith, places_most c.self.inside.height c.processes-p.result c.self.inside.most c.self.invariant.1 (omega arith) c.self.invariant.2),
)
