-- The memory invariant: what holds of the blocks and heads whatever the order of steps. Contracts of functions cite it;
-- no exported promise does.
use Rattle.std.specs.Prelude.{ℕ, suc, ◌+◌, ◌*◌, ◌≤◌, ◌<◌, ◌≡◌, ◌⊎◌, length, eqb, if◌then◌else◌}
use Rattle.tree.specs.declared.Block.{Block}
use Rattle.tree.specs.declared.Kind.{Kind}
use Rattle.tree.specs.Shape.{Shape, processes, leaf_of, last_place}
pub use Rattle.tree.specs.Shape.{Node}
use Rattle.tree.specs.Layout.{words_needed}
use Rattle.tree.specs.Memory.{Memory, head_of, block}
use Rattle.tree.specs.Size.{root_size}
use Rattle.tree.specs.Order.{total}
use Rattle.tree.specs.Sides.{Side, onLeft, onRight, child_of, end_of}

-- a node that has children
pub record Inner (s : Shape) (v : ℕ) : Type 0 where
  pub first : 1 ≤ v
  pub last : v < processes s

-- the operations up to and including a block
abbrev pub count : Block → ℕ
count b = b.puts + b.takes

-- place i of node v is present; it is present or place 0
abbrev pub Present : Shape → Memory → ℕ → ℕ → Type 0
Present s m v i = 1 ≤ count (block s m v i)

abbrev pub Written : Shape → Memory → ℕ → ℕ → Type 0
Written s m v i = (i ≡ 0) ⊎ Present s m v i

-- all words are zero
unfoldable pub zeros : Block
zeros = record { puts = 0; takes = 0; superblock = 0; left = 0; right = 0; size = 0; number = 0 }

-- a memory that has the words needed and a head for each node
pub record Sized (s : Shape) (m : Memory) : Type 0 where
  pub words : length m.table ≡ words_needed s
  pub heads : length m.heads ≡ 2 * processes s

-- c may follow b in a node: totals never fall, and their sum rises
pub record Follows (b c : Block) : Type 0 where
  pub rises : (κ : Kind) → total κ b ≤ total κ c
  pub more : count b < count c

-- c may follow b in a leaf: it adds one operation
pub record AddsOne (b c : Block) : Type 0 where
  pub one : count c ≡ count b + 1

-- c may follow b in inner node v: ends never fall and are below the children's heads, totals are the sums at the ends,
-- and the root's size follows its rule
pub record Joins (s : Shape) (m : Memory) (v : ℕ) (b c : Block) : Type 0 where
  pub rises : (d : Side) → end_of d b ≤ end_of d c
  pub below : (d : Side) → end_of d c < head_of m (child_of d v)
  pub sums : (κ : Kind) → total κ c ≡ total κ (block s m (child_of onLeft v) c.left) + total κ (block s m (child_of onRight v) c.right)
  pub sized : c.size ≡ (if eqb v 1 then root_size b c.puts c.takes else 0)

-- any node: heads from 1; places below the head are present and those above it absent; absent places are zero; totals
-- rise and stay within the node's places
pub record NodeSound (s : Shape) (m : Memory) (v : ℕ) : Type 0 where
  pub head : 1 ≤ head_of m v
  pub filled : (i : ℕ) → 1 ≤ i → i < head_of m v → Present s m v i
  pub empty : (i : ℕ) → head_of m v < i → count (block s m v i) ≡ 0
  pub first : count (block s m v 0) ≡ 0
  pub clear : (i : ℕ) → count (block s m v i) ≡ 0 → block s m v i ≡ zeros
  pub follows : (i : ℕ) → Present s m v (suc i) → Follows (block s m v i) (block s m v (suc i))
  pub within : (i : ℕ) → count (block s m v i) ≤ last_place s v

pub record Sound (s : Shape) (m : Memory) : Type 0 where
  pub node : (v : ℕ) → Node s v → NodeSound s m v
  pub joins : (v : ℕ) → Inner s v → (i : ℕ) → Present s m v (suc i) → Joins s m v (block s m v i) (block s m v (suc i))
  pub adds : (k : ℕ) → k < processes s → (i : ℕ) → Present s m (leaf_of s k) (suc i) → AddsOne (block s m (leaf_of s k) i) (block s m (leaf_of s k) (suc i))
