-- What finding a put by its number needs on the way from the root to its leaf.
use Rattle.std.specs.Prelude.{ℕ, ◌+◌, ◌*◌, ◌-◌, ◌≤◌, ◌<◌, List, get_or, leb, if◌then◌else◌}
use Rattle.tree.specs.declared.Kind.TheVariants.{Puts}
use Rattle.tree.specs.Shape.{Shape}
use Rattle.tree.specs.Blocks.{block_at}
use Rattle.tree.specs.Order.{OpId, opened}
use Rattle.tree.proofs.Levels.{Level}
use Rattle.tree.specs.Clauses.Access.{HasPlace}
use Rattle.tree.specs.Clauses.SoundTree.{SoundTree}
use Rattle.search.specs.declared.find.Descent.{Descent}
use Rattle.search.specs.Clauses.Numbered.{HasValue}

-- put number n of node v, counted from 1 over the node's blocks from place 1 on, is in block b of v, a node of height h
pub record Finds (s : Shape) (table : List ℕ) (h v b n : ℕ) (heads : List ℕ) : Type 0 where
  pub tree : SoundTree s heads table
  pub level : Level s h v
  pub past : (block_at s table v (b - 1)).puts < n
  pub upto : n ≤ (block_at s table v b).puts

-- r is the value of that put; z would stand for a put that is not there
abbrev pub FoundIn : Shape → List ℕ → ℕ → ℕ → ℕ → ℕ → ℕ → Type 0
FoundIn s t h v b n r = (z : OpId) → HasValue s t (get_or (opened s t Puts h v b) (n - 1 - (block_at s t v (b - 1)).puts) z) r

-- the children have the places that are read: the left end in v's block b, and the right end in the block before; the
-- puts up to there are few enough to add, and n is past those on the right
pub record Descends (s : Shape) (table : List ℕ) (v b n : ℕ) : Type 0 where
  pub some : 1 ≤ b
  pub low : v < 65536
  pub here : HasPlace s table v b
  pub before : HasPlace s table v (b - 1)
  pub left : HasPlace s table (2 * v) (block_at s table v b).left
  pub right : HasPlace s table (2 * v + 1) (block_at s table v (b - 1)).right
  pub small : (block_at s table (2 * v) (block_at s table v b).left).puts + (block_at s table (2 * v + 1) (block_at s table v (b - 1)).right).puts < 65536
  pub past : (block_at s table (2 * v + 1) (block_at s table v (b - 1)).right).puts ≤ n

-- Where that put is one level lower. The left child's puts up to its end in b, and the right child's up to its end in
-- the block before, come before the right child's of b. In the left child its number is less by those on the right, in
-- the right child by those on the left.
unfoldable pub descent_of : Shape → List ℕ → ℕ → ℕ → ℕ → Descent
descent_of s table v b n =
    let here = block_at s table v b in
    let left = (block_at s table (2 * v) here.left).puts in
    let right = (block_at s table (2 * v + 1) (block_at s table v (b - 1)).right).puts in
    if leb n (left + right)
    then record { node = 2 * v; last = here.left; number = n - right }
    else record { node = 2 * v + 1; last = here.right; number = n - left }
