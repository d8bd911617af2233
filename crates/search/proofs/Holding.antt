-- Which block of a node holds an operation, and its number there: the invariants of the climb, without and with the
-- count.
use Prim.Native.Nat.{ℕ, ◌+◌, ◌-◌, ◌≤◌, ◌<◌}
use mathlib.Core.Path.{◌≡◌}
use mathlib.Core.List.{List}
use Rattle.tree.specs.declared.Kind.{Kind}
use Rattle.tree.specs.Shape.{Shape}
use Rattle.tree.specs.Blocks.{block_at}
use Rattle.tree.specs.Memory.{head_of, memory_of}
use Rattle.tree.specs.Order.{total, opened}
use Rattle.tree.specs.Standing.{times, rank_in}
use Rattle.tree.proofs.Ancestors.{ancestor}
use Rattle.tree.proofs.Reach.{reach}
use Rattle.search.specs.Clauses.Stands.{Stands, OfKind}

-- Of the operations of kind κ in a node's blocks from place 1 on, `number` says how many stand up to operation i of
-- process k, which is in block `place` of the node of height j above k's leaf. If the operation is of another kind, the
-- number is within the block's all the same.
pub record CountsAs (s : Shape) (k i j : ℕ) (table : List ℕ) (κ : Kind) (place number : ℕ) : Type 0 where
  pub low : total κ (block_at s table (ancestor s k j) (place - 1)) ≤ number
  pub high : number ≤ total κ (block_at s table (ancestor s k j) place)
  pub inside : OfKind s table κ k i → 1 ≤ times (record { process = k; serial = i }) (opened s table κ j (ancestor s k j) place)
  pub exact : OfKind s table κ k i
      → number ≡ total κ (block_at s table (ancestor s k j) (place - 1)) + rank_in (record { process = k; serial = i }) (opened s table κ j (ancestor s k j) place)

-- in the node of height j above the leaf of process k, block `place` holds operation i of k
pub record HoldsAs (s : Shape) (k i j : ℕ) (heads table : List ℕ) (place : ℕ) : Type 0 where
  pub stands : Stands s heads table k i
  pub tall : j ≤ s.height
  pub some : 1 ≤ place
  pub below : place < head_of (memory_of table heads) (ancestor s k j)
  pub past : reach s (memory_of table heads) k j (place - 1) < i
  pub upto : i ≤ reach s (memory_of table heads) k j place

-- the climb has come to node v: its block `place` holds operation i of process k
pub record Reached (s : Shape) (k i : ℕ) (heads table : List ℕ) (v place : ℕ) : Type 0 where
  pub level : ℕ
  pub node : v ≡ ancestor s k level
  pub holds : HoldsAs s k i level heads table place

-- it has done so with a count: `number` is the operation's number there
pub record Counted (s : Shape) (k i : ℕ) (heads table : List ℕ) (κ : Kind) (v place number : ℕ) : Type 0 where
  pub at : Reached s k i heads table v place
  pub counts : CountsAs s k i at.level table κ place number
