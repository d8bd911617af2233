-- `layout::Tree::last_place` meets its contract.
use native.Mathlib.Omega.{arith}
use Rattle.tree.specs.Shape.{height_of, last_place}
use Rattle.table.proofs.Powers.{shifted}
use Rattle.table.proofs.layout.Tree.last_place.Goals as goal

pub returns : goal.returns
unfolding last_place height_of
returns c =
    let s = shifted c.self.inside.most c.height_in.result c.self.invariant.2 (omega arith) in
    rw (s.0) (rw (c.height_in.ensures.0, ← c.self.view_is), s.1)
