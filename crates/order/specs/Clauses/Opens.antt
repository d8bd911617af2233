-- What opening a block, some blocks of a node, or a root block needs: that they are present in a sound memory.
use Rattle.std.specs.Prelude.{ℕ, suc, ◌-◌, ◌≤◌, ◌<◌, ◌≡◌, List, Bool, ltb}
use Rattle.tree.specs.declared.Kind.{Kind}
use Rattle.tree.specs.Shape.{Shape, root}
use Rattle.tree.specs.Blocks.{block_at}
use Rattle.tree.specs.Order.{total, last_root}
use Rattle.tree.specs.Clauses.Invariant.{Present}
use Rattle.tree.proofs.Levels.{Level}
use Rattle.tree.specs.Clauses.SoundTree.{SoundTree}
use Rattle.order.specs.declared.Subtree.{Subtree}
use Rattle.tree.specs.Memory.{memory_of}

-- a leaf
abbrev pub leaf_at : ℕ → Subtree
leaf_at v = record { node = v; height = 0 }

-- whether its block b adds an operation of a kind
abbrev pub adds_to : Shape → List ℕ → Kind → ℕ → ℕ → Bool
adds_to s table κ v b = ltb (total κ (block_at s table v (b - 1))) (total κ (block_at s table v b))

-- a table and heads are a sound memory of shape s, and y is a node of it with its height
pub record InTree (s : Shape) (table : List ℕ) (y : Subtree) (heads : List ℕ) : Type 0 where
  pub tree : SoundTree s heads table
  pub level : Level s y.height y.node

-- y's block b is present
pub record BlockOf (s : Shape) (table : List ℕ) (y : Subtree) (b : ℕ) (heads : List ℕ) : Type 0 where
  pub within : InTree s table y heads
  pub present : Present s (memory_of table heads) y.node b

-- y's blocks up to and with `to` are present, and `from` is at most that
pub record RangeOf (s : Shape) (table : List ℕ) (y : Subtree) (from to : ℕ) (heads : List ℕ) : Type 0 where
  pub within : InTree s table y heads
  pub rises : from ≤ to
  pub present : (i : ℕ) → i < to → Present s (memory_of table heads) y.node (suc i)

-- root block b is present
pub record RootOf (s : Shape) (table : List ℕ) (b : ℕ) (heads : List ℕ) : Type 0 where
  pub tree : SoundTree s heads table
  pub present : Present s (memory_of table heads) root b

-- root block b is the last one
pub record LastRootIs (s : Shape) (table : List ℕ) (b : ℕ) (heads : List ℕ) : Type 0 where
  pub tree : SoundTree s heads table
  pub last : b ≡ last_root s table
