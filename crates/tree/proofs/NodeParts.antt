-- The words from one node's start to the next one's are that node's part: what code does there, it does to the node's
-- blocks.
use Prim.Native.Nat.{ℕ, ◌+◌, ◌-◌, ◌≤◌}
use native.Mathlib.Omega.{arith}
use native.Mathlib.Numerals.{add-one}
use mathlib.Core.Path.{◌≡◌, refl}
use mathlib.Core.List.{List, append_assoc}
use lib.ListN.{take, drop}
use borrow.Rule.Slice.PartMut.{put_mid, Post-is}
use Rattle.tree.specs.declared.Block.{Block}
use Rattle.tree.specs.Shape.{Shape}
use Rattle.tree.specs.Layout.{part_start, part_words, part_of, with_part}
use Rattle.tree.specs.Blocks.{with_block, with_block_at}

pub next_start : (s : Shape) (v : ℕ) → part_start s (v + 1) ≡ part_start s v + part_words s v
unfolding part_start
next_start s v = rw add-one refl

module _ (s : Shape) (t : List ℕ) (v from to : ℕ) (start : from ≡ part_start s v) (end : to ≡ part_start s v + part_words s v) where
  pub part_between : take (to - from) (drop from t) ≡ part_of s t v
  unfolding part_of
  part_between = let e : to - from ≡ part_words s v = omega arith in rw (e, start)

  -- a part that was lent and has now a block at place i, put back with what stands before it and behind it
  pub block_put_back : (i : ℕ) (b : Block) → put_mid from (to - from) t (with_block (part_of s t v) i b) ≡ with_block_at s t v i b
  unfolding with_block_at with_part
  block_put_back i b =
      let le : from ≤ to = omega arith in
      rw (append_assoc, Post-is from to t le, end, start)
