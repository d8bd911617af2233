-- The process invariant: how far operation b of process k has come, by its stage.
use Prim.Native.Nat.{ℕ, suc, ◌+◌, ◌-◌, ◌≤◌, ◌<◌}
use mathlib.Core.Path.{◌≡◌}
use mathlib.Core.Logic.{◌⊎◌}
use Rattle.tree.specs.Shape.{Shape, processes, root, leaf_of, left_of, right_of}
use Rattle.tree.specs.Memory.{Memory, head_of, block}
use Rattle.tree.specs.Sides.{Side, onLeft, onRight, child_of, end_of}
use Rattle.tree.specs.Clauses.Invariant.{Node, count, Present, Follows, Joins}
use Rattle.tree.proofs.Ancestors.{ancestor, side_at}
use Rattle.tree.proofs.Reach.{reach}
use Rattle.steps.specs.declared.Refresh.{Refresh}
use Rattle.steps.specs.declared.Refresh.TheVariants.{First, Second}
use Rattle.steps.specs.declared.Visit.{Visit}
use Rattle.steps.specs.declared.After.{After}
use Rattle.steps.specs.declared.After.TheVariants.{Right, Ends, Again, Up}
use Rattle.steps.specs.Rules.{block_of}
use Rattle.steps.proofs.Stages.{Tally, uncounted, counted_left, counted_both, Hand, none, one, two, made, Stage, resting, adding, advancing, starting, building, answering, HasEnd, Holds}

-- ---- the own leaf

-- the leaf of process k has no block past place w
abbrev pub LeafEnds : Shape → Memory → ℕ → ℕ → Type 0
LeafEnds s m k w = (i : ℕ) → w < i → count (block s m (leaf_of s k) i) ≡ 0

-- all of the b operations are in the leaf, below its head
pub record LeafDone (s : Shape) (m : Memory) (k b : ℕ) : Type 0 where
  pub ends : LeafEnds s m k b
  pub head : head_of m (leaf_of s k) ≡ b + 1

-- the last is still to be written
pub record LeafOpen (s : Shape) (m : Memory) (k b : ℕ) : Type 0 where
  pub some : 1 ≤ b
  pub ends : LeafEnds s m k (b - 1)
  pub head : head_of m (leaf_of s k) ≡ b

-- all are written; the head may be at the last while place h of v is advanced, if that is it
pub record LeafMoving (s : Shape) (m : Memory) (k b v h : ℕ) : Type 0 where
  pub ends : LeafEnds s m k b
  pub head : (head_of m (leaf_of s k) ≡ b + 1) ⊎ ((v ≡ leaf_of s k) × (h ≡ b) × (head_of m (leaf_of s k) ≡ b))

abbrev pub OwnLeaf : Shape → Memory → ℕ → ℕ → Stage → Type 0
OwnLeaf s m k b resting = LeafDone s m k b
OwnLeaf s m k b adding = LeafOpen s m k b
OwnLeaf s m k b (advancing w a v h) = LeafMoving s m k b v h
OwnLeaf s m k b (starting v q) = LeafDone s m k b
OwnLeaf s m k b (building w x) = LeafDone s m k b
OwnLeaf s m k b answering = LeafDone s m k b

-- ---- the way up

-- below the head of the ancestor of height j the operation is reached
abbrev pub Covered : Shape → Memory → ℕ → ℕ → ℕ → Type 0
Covered s m k b j = b ≤ reach s m k j (head_of m (ancestor s k j) - 1)

-- Why two refreshes are enough: each block of the ancestor of height j + 1 past place t, and each end in hand for such
-- a block, reaches the operation.
pub record Owed (s : Shape) (m : Memory) (hold : ℕ → Stage) (k b j t : ℕ) : Type 0 where
  pub blocks : (i : ℕ) → t < i → Present s m (ancestor s k (suc j)) i → b ≤ reach s m k (suc j) i
  pub ends : (r : ℕ) → r < processes s → (h e : ℕ) → Holds (side_at s k j) (hold r) (ancestor s k (suc j)) h e → t < h → b ≤ reach s m k j e

-- the threshold of a first refresh with head h, and of a second
abbrev pub Threshold : Refresh → ℕ → ℕ → Type 0
Threshold First t h = t ≤ h
Threshold Second t h = t < h

-- in a refresh whose head is read
pub record Refreshing (s : Shape) (m : Memory) (hold : ℕ → Stage) (k b : ℕ) (w : Visit) : Type 0 where
  pub level : ℕ
  pub limit : ℕ
  pub node : w.node ≡ ancestor s k (suc level)
  pub low : suc level ≤ s.height
  pub covered : Covered s m k b level
  pub first : 1 ≤ w.head
  pub last : w.head ≤ head_of m w.node
  pub bound : Threshold w.refresh limit w.head
  pub owed : Owed s m hold k b level limit

-- at the first step of a refresh
pub record Starting (s : Shape) (m : Memory) (hold : ℕ → Stage) (k b v : ℕ) (q : Refresh) : Type 0 where
  pub level : ℕ
  pub node : v ≡ ancestor s k (suc level)
  pub low : suc level ≤ s.height
  pub covered : Covered s m k b level
  pub owing : q ≡ Second → (t : ℕ) × (t < head_of m v) × Owed s m hold k b level t

-- in the advance of place h of the visited node, which reaches the operation; in the one after a failed first refresh
pub record Passing (s : Shape) (m : Memory) (k b : ℕ) (w : Visit) (v h : ℕ) : Type 0 where
  pub level : ℕ
  pub same : v ≡ w.node
  pub node : w.node ≡ ancestor s k level
  pub low : level ≤ s.height
  pub got : b ≤ reach s m k level h

pub record Failed (s : Shape) (m : Memory) (hold : ℕ → Stage) (k b : ℕ) (w : Visit) (v h : ℕ) : Type 0 where
  pub level : ℕ
  pub limit : ℕ
  pub same : v ≡ w.node
  pub node : w.node ≡ ancestor s k (suc level)
  pub low : suc level ≤ s.height
  pub covered : Covered s m k b level
  pub bound : limit ≤ h
  pub owed : Owed s m hold k b level limit

abbrev pub AfterAdvance : Shape → Memory → (ℕ → Stage) → ℕ → ℕ → Visit → After → ℕ → ℕ → Type 0
AfterAdvance s m hold k b w Right v h = Refreshing s m hold k b w
AfterAdvance s m hold k b w Ends v h = Refreshing s m hold k b w
AfterAdvance s m hold k b w Again v h = Failed s m hold k b w v h
AfterAdvance s m hold k b w Up v h = Passing s m k b w v h

pub record Advancing (s : Shape) (m : Memory) (hold : ℕ → Stage) (k b : ℕ) (w : Visit) (a : After) (v h : ℕ) : Type 0 where
  pub node : Node s v
  pub present : Present s m v h
  pub then : AfterAdvance s m hold k b w a v h

-- an end for the visited place, on a side; what is in hand
pub record EndOk (s : Shape) (m : Memory) (w : Visit) (d : Side) (e : ℕ) : Type 0 where
  pub rises : end_of d (block s m w.node (w.head - 1)) ≤ e
  pub below : e < head_of m (child_of d w.node)

-- the totals in hand are those of the blocks at the ends l and r
abbrev pub Tallied : Shape → Memory → Visit → ℕ → ℕ → Tally → Type 0
Tallied s m w l r uncounted = Unit {0}
Tallied s m w l r (counted_left puts takes) = let x = block s m (left_of w.node) l in (puts ≡ x.puts) × (takes ≡ x.takes)
Tallied s m w l r (counted_both puts takes) =
    let x = block s m (left_of w.node) l in
    let y = block s m (right_of w.node) r in
    (puts ≡ x.puts + y.puts) × (takes ≡ x.takes + y.takes)

abbrev pub HandOk : Shape → Memory → Visit → Hand → Type 0
HandOk s m w none = Unit {0}
HandOk s m w (one l) = EndOk s m w onLeft l
HandOk s m w (two l r x) = EndOk s m w onLeft l × EndOk s m w onRight r × Tallied s m w l r x
-- the block that was made, whatever number C4 gives it
HandOk s m w (made n) =
    (number : ℕ) → Follows (block s m w.node (w.head - 1)) (block_of number n) × Joins s m w.node (block s m w.node (w.head - 1)) (block_of number n)

pub record Building (s : Shape) (m : Memory) (hold : ℕ → Stage) (k b : ℕ) (w : Visit) (x : Hand) : Type 0 where
  pub refreshing : Refreshing s m hold k b w
  pub hand : HandOk s m w x
  -- an end in the own hand, on the own side, reaches the operation
  pub mine : (e : ℕ) → HasEnd (side_at s k refreshing.level) x e → b ≤ reach s m k refreshing.level e

-- the operation stands in the root, below its head
abbrev pub Rooted : Shape → Memory → ℕ → ℕ → Type 0
Rooted s m k b = b ≤ reach s m k s.height (head_of m root - 1)

-- how far the operation has been carried, by its stage
abbrev pub Carried : Shape → Memory → (ℕ → Stage) → ℕ → ℕ → Stage → Type 0
Carried s m hold k b resting = Unit {0}
Carried s m hold k b adding = Unit {0}
Carried s m hold k b (advancing w a v h) = Advancing s m hold k b w a v h
Carried s m hold k b (starting v q) = Starting s m hold k b v q
Carried s m hold k b (building w x) = Building s m hold k b w x
Carried s m hold k b answering = Rooted s m k b
