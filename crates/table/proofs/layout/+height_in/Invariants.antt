-- `layout::height_in` meets its contract. The measure is the height of the tree, which each call lowers by one.
use Rattle.table.proofs.layout.+height_in.Given as goal

abbrev pub decreases-height_in : goal.decreases-height_in
decreases-height_in l = l.h
