-- The two sides of a node: the child there, a block's end there, and the block's subblocks there.
use Rattle.std.specs.Prelude.{ℕ, ◌-◌, List}
use Rattle.base.specs.Between.{between}
use Rattle.tree.specs.declared.Block.{Block}
use Rattle.tree.specs.Shape.{Shape, left_of, right_of}
use Rattle.tree.specs.Blocks.{block_at}

pub data Side : Type 0 where
  onLeft onRight : Side

abbrev pub child_of : Side → ℕ → ℕ
child_of onLeft v = left_of v
child_of onRight v = right_of v

abbrev pub end_of : Side → Block → ℕ
end_of onLeft b = b.left
end_of onRight b = b.right

-- Subblocks of v's block b in the child on side d: the places there after the end in block b − 1, up to the end in b.
unfoldable pub subblocks : Shape → List ℕ → Side → ℕ → ℕ → List ℕ
subblocks s t d v b = between (end_of d (block_at s t v (b - 1))) (end_of d (block_at s t v b))
