-- What the claims about numbers say, of every node of the tree and of each subblock: no less than request f does.
use Prim.Native.Nat.{ℕ, ◌*◌, ◌-◌, ◌≤◌, ◌<◌}
use native.Mathlib.Omega.{arith}
use mathlib.Core.Path.{◌≡◌}
use mathlib.Core.Bool.{false}
use mathlib.Core.List.{List}
use Rattle.base.proofs.Members.{member_between}
use Rattle.record.specs.declared.StepRecord.{StepRecord}
use Rattle.tree.specs.Shape.{Shape, Node, processes, root, left_of, right_of}
use Rattle.tree.specs.Blocks.{block_at, absent}
use Rattle.tree.specs.Sides.{Side, onLeft, onRight, child_of, end_of, subblocks}
use Rattle.block_numbers.specs.BlockNumbers.{WrittenBy, NumbersTell}

module _ (s : Shape) (taken : List StepRecord) (t : List ℕ) (claim : NumbersTell s taken t) where
  pub zero_of : (v : ℕ) → Node s v → (block_at s t v 0).number ≡ 0
  unfolding root
  zero_of v n = claim.zero v n.first n.last

  pub written_of : (v i : ℕ) → Node s v → absent (block_at s t v i) ≡ false → WrittenBy s taken v i (block_at s t v i).number
  unfolding root
  written_of v i n = claim.written v i n.first n.last

  pub rises_of : (v i j : ℕ) → Node s v → i < j → absent (block_at s t v j) ≡ false → (block_at s t v i).number < (block_at s t v j).number
  unfolding root
  rises_of v i j n = claim.rises v i j n.first n.last

  pub above_of : (d : Side) (v b c : ℕ) → Node s v → Node s (child_of d v) → absent (block_at s t v b) ≡ false
      → end_of d (block_at s t v (b - 1)) < c → c ≤ end_of d (block_at s t v b) → (block_at s t (child_of d v) c).number < (block_at s t v b).number
  unfolding root subblocks left_of right_of
  above_of d v b c n m here after up = member_between _ _ _ (claim.above d v b n.first (inner d m.last) here) c after up
    where
      inner : (d : Side) → child_of d v < 2 * processes s → v < processes s
      inner onLeft l = omega arith
      inner onRight l = omega arith
