-- `layout::Tree::new` meets its contract.
use Rattle.tree.specs.Shape.{shape_for}
use Rattle.table.proofs.layout.Tree.new.Goals as goal

pub returns : goal.returns
unfolding shape_for
returns c = rw c.height_for.ensures.0
