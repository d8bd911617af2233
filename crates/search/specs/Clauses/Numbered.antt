-- The put with a number: what finding its value needs, and what is found.
use Rattle.std.specs.Prelude.{ℕ, ◌-◌, ◌≤◌, ◌≡◌, List, get_or}
use Rattle.tree.specs.Shape.{Shape, root, leaf_of}
use Rattle.tree.specs.Blocks.{block_at}
use Rattle.tree.specs.Order.{OpId, last_root, root_puts}
use Rattle.tree.specs.Clauses.SoundTree.{SoundTree}

-- in a tree of shape s put number n, from 1 in root order, is in the root blocks up to `last`, which is present
pub record Numbered (s : Shape) (table : List ℕ) (last n : ℕ) (heads : List ℕ) : Type 0 where
  pub tree : SoundTree s heads table
  pub some : 1 ≤ last
  pub most : last ≤ last_root s table
  pub first : 1 ≤ n
  pub within : n ≤ (block_at s table root last).puts

-- r is the value of put x, which its leaf's block holds in end left
abbrev pub HasValue : Shape → List ℕ → OpId → ℕ → Type 0
HasValue s t x r = r ≡ (block_at s t (leaf_of s x.process) x.serial).left

-- r is the value of put number n in root order; z would stand for a put that is not there
abbrev pub ValueAt : Shape → List ℕ → ℕ → ℕ → Type 0
ValueAt s t n r = (z : OpId) → HasValue s t (get_or (root_puts s t) (n - 1) z) r
