-- Where an operation stands: what finding it needs, and what is found.
use Rattle.std.specs.Prelude.{ℕ, ◌-◌, ◌≤◌, ◌<◌, ◌≡◌, List}
use Rattle.tree.specs.declared.Kind.{Kind}
use Rattle.tree.specs.Shape.{Shape, processes, root, leaf_of}
use Rattle.tree.specs.Blocks.{block_at}
use Rattle.tree.specs.Memory.{memory_of, head_of}
use Rattle.tree.specs.Order.{total, in_root, last_root}
use Rattle.tree.specs.Standing.{root_block_of, rank_in}
use Rattle.tree.proofs.Reach.{reach}
use Rattle.tree.specs.Clauses.SoundTree.{SoundTree}
use Rattle.search.specs.declared.Standing.{Standing}

-- in a tree of shape s, the root blocks below the root's head hold operation `serial` of process k
pub record Stands (s : Shape) (heads table : List ℕ) (k serial : ℕ) : Type 0 where
  pub tree : SoundTree s heads table
  pub process : k < processes s
  pub first : 1 ≤ serial
  pub rooted : let m = memory_of table heads in serial ≤ reach s m k s.height (head_of m root - 1)

-- operation i of process k is of kind κ: its block in its leaf adds one
abbrev pub OfKind : Shape → List ℕ → Kind → ℕ → ℕ → Type 0
OfKind s t κ k i = total κ (block_at s t (leaf_of s k) (i - 1)) < total κ (block_at s t (leaf_of s k) i)

-- the same of an operation of kind κ
abbrev pub StandsOf : Kind → Shape → List ℕ → List ℕ → ℕ → ℕ → Type 0
StandsOf κ s heads table k serial = Stands s heads table k serial × OfKind s table κ k serial

-- b is the root block of operation i of process k, and is present
pub record RootBlockIs (s : Shape) (t : List ℕ) (k i b : ℕ) : Type 0 where
  pub first : 1 ≤ b
  pub last : b ≤ last_root s t
  pub own : b ≡ root_block_of s t (record { process = k; serial = i })

-- r is where operation i of process k stands, which is of kind κ: its root block, and its number among those of that
-- kind there
pub record StandsAt (s : Shape) (t : List ℕ) (κ : Kind) (k i : ℕ) (r : Standing) : Type 0 where
  pub block : RootBlockIs s t k i r.block
  pub rank : r.rank ≡ rank_in (record { process = k; serial = i }) (in_root s t κ r.block)
  pub some : 1 ≤ r.rank
  pub most : r.rank ≤ total κ (block_at s t root r.block) - total κ (block_at s t root (r.block - 1))
