-- The ends of an inner node's block are places of the children.
use Prim.Native.Nat.{ℕ}
use mathlib.Core.List.{List}
use Rattle.tree.specs.Shape.{Shape}
use Rattle.tree.specs.Blocks.{block_at}
use Rattle.tree.specs.Memory.{block, memory_of}
use Rattle.tree.specs.Sides.{Side, child_of, end_of}
use Rattle.tree.specs.Clauses.Access.{HasPlace}
use Rattle.tree.specs.Clauses.Invariant.{Inner, Written}
use Rattle.tree.specs.Clauses.SoundTree.{SoundTree}
use Rattle.tree.proofs.Nodes.{child_node}
use Rattle.tree.proofs.Sound.{below_head, end_below}
use Rattle.tree.proofs.Places.{written_place}

module _ (s : Shape) (heads table : List ℕ) (tree : SoundTree s heads table) (v : ℕ) (inner : Inner s v) (d : Side) (a : ℕ) where
  -- an end is below the child's head
  pub end_written : Written s (memory_of table heads) v a
      → Written s (memory_of table heads) (child_of d v) (end_of d (block s (memory_of table heads) v a))
  end_written w = below_head (tree.sound.node (child_of d v) (child_node s d v inner)) _ (end_below tree.sound d v inner a w)

  pub end_place : Written s (memory_of table heads) v a → HasPlace s table (child_of d v) (end_of d (block_at s table v a))
  unfolding block
  end_place w = written_place tree (child_of d v) _ (child_node s d v inner) (end_written w)
