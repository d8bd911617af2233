-- Runs that show where a superblock stands, as rows, and one theorem over the rows. Both places are taken, so neither
-- half of near_super says it alone; and a wrong step rule leaves the superblock of its row elsewhere.
use Rattle.std.specs.Prelude.{ℕ, ◌≡◌, refl, Bool, true, List, [], ◌∷◌, ◌++◌, map, eqb}
use Rattle.base.specs.Between.{between}
use Rattle.tree.specs.Shape.{root, shape_for}
use Rattle.tree.specs.Layout.{words_needed}
use Rattle.tree.specs.Blocks.{block_at}
use Rattle.tree.specs.Sides.{Side, onLeft, onRight, child_of, subblocks}
use Rattle.tree.specs.Order.{last_root}
use Rattle.tree.specs.Standing.{first_of}
use Rattle.calls.specs.Run.{run}
use Rattle.calls.specs.All.{rules}
use Rattle.calls.specs.Lists.{begin_put, steps, lent}
use Rattle.superblocks.specs.Supers.{near_super}

-- two processes of at most `most` operations, and what their records leave of block 1 of the root's child on a side:
-- its super, where its superblock stands, the root block that has it as a subblock, and whether that is near
pub record SuperRow : Type 0 where
  pub most : ℕ
  pub records : List ℕ
  pub side : Side
  pub super : ℕ
  pub stands : ℕ
  pub near : Bool

unfoldable pub super_row : ℕ → List ℕ → Side → ℕ → ℕ → Bool → SuperRow
super_row l records d z q near = record { most = l; records = records; side = d; super = z; stands = q; near = near }

pub super_rows : List SuperRow
super_rows =
    -- a put alone: at super
    super_row 1 (begin_put 5 0 ++ steps 17 0) onLeft 1 1 true
    -- process 1 has read where its root block ends on the left when process 0 adds there and reads the root's head: one
    -- place later
    ∷ super_row 1 (begin_put 7 1 ++ steps 10 1 ++ begin_put 5 0 ++ steps 2 0 ++ steps 7 1 ++ steps 15 0) onLeft 1 2 true
    -- a block that comes after two root blocks
    ∷ super_row 2 (begin_put 5 0 ++ steps 17 0 ++ begin_put 6 0 ++ steps 17 0 ++ begin_put 7 1 ++ steps 17 1) onRight 3 3 true
    -- process 0 helps block 1 of process 1, and comes to set its super after the superblock is there: a set super stays
    ∷ super_row 1 (begin_put 7 1 ++ steps 1 1 ++ begin_put 5 0 ++ steps 9 0 ++ steps 16 1 ++ steps 2 0) onRight 1 1 true
    -- process 1 stops before it raises its head, and process 0 helps it on the right; and the same on the left
    ∷ super_row 2 (begin_put 7 1 ++ steps 3 1 ++ begin_put 5 0 ++ steps 20 0 ++ begin_put 6 0 ++ steps 17 0) onRight 1 1 true
    ∷ super_row 2 (begin_put 7 0 ++ steps 3 0 ++ begin_put 5 1 ++ steps 20 1 ++ begin_put 6 1 ++ steps 17 1) onLeft 1 1 true
    ∷ []

-- a row with what the definitions give in the place of what it says
unfoldable pub replayed : SuperRow → SuperRow
replayed r =
    let s = shape_for 2 r.most in
    let t = (run 2 r.most r.records (lent (words_needed s)) (lent 64)).table in
    let z = (block_at s t (child_of r.side root) 1).superblock in
    let q = first_of (λ b. eqb (first_of (eqb 1) (subblocks s t r.side root b)) 1) (between 0 (last_root s t)) in
    super_row r.most r.records r.side z q (near_super q z)

pub super_rows_hold : map replayed super_rows ≡ super_rows
unfolding rules begin_put steps lent near_super super_row super_rows replayed
super_rows_hold = refl
