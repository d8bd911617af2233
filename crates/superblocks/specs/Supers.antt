-- Where a block's direct superblock stands, the parent's block that has it as a subblock: once present, at the block's
-- super or one place later.
use Rattle.std.specs.Prelude.{ℕ, ◌+◌, ◌≤◌, ◌<◌, ◌≡◌, Bool, true, false, ◌&&◌, ◌||◌, List, take, leb, eqb}
use Rattle.base.specs.Members.{All}
use Rattle.tree.specs.Shape.{Shape, processes, root, shape_for}
use Rattle.tree.specs.Layout.{words_needed}
use Rattle.tree.specs.Blocks.{block_at, absent}
use Rattle.tree.specs.Sides.{Side, child_of, subblocks}
use Rattle.calls.specs.Run.{RunResult}

-- super z is set, and place q is z or one place later
unfoldable pub near_super : ℕ → ℕ → Bool
near_super q z = leb 1 z && (eqb q z || eqb q (z + 1))

-- of every node v above the leaves, its child on each side and each present block q of v: all subblocks of q there have
-- their super set, and q is that super or one place later
pub record SupersNear (s : Shape) (t : List ℕ) : Type 0 where
  pub near : (d : Side) (v q : ℕ) → root ≤ v → v < processes s → absent (block_at s t v q) ≡ false
      → All (λ i. near_super q (block_at s t (child_of d v) i).superblock ≡ true) (subblocks s t d v q)

-- of a call of Run: of the needed words that it left
abbrev pub RunSupers : ℕ → ℕ → RunResult → Type 0
RunSupers p l e = SupersNear (shape_for p l) (take (words_needed (shape_for p l)) e.table)
