-- The order of operations: in a block, opened down to the leaves, and in the root.
use Rattle.std.specs.Prelude.{ℕ, zero, suc, ◌-◌, ltb, if◌then◌else◌}
use mathlib.Core.List.{List, [], ◌∷◌, ◌++◌, map, flat_map}
use Rattle.base.specs.Between.{between}
use Rattle.tree.specs.declared.Block.{Block}
use Rattle.tree.specs.declared.Kind.{Kind}
use Rattle.tree.specs.declared.Kind.TheVariants.{Puts, Takes}
use Rattle.tree.specs.Shape.{Shape, processes, root, left_of, right_of, last_place}
use Rattle.tree.specs.Blocks.{block_at, absent}
use Rattle.tree.specs.Sides.{onLeft, onRight, subblocks}

-- an operation: its process, and its serial there, which is its place in the process's leaf
pub record OpId : Type 0 where
  pub process : ℕ
  pub serial : ℕ

-- a block's total of a kind
unfoldable pub total : Kind → Block → ℕ
total Puts b = b.puts
total Takes b = b.takes

-- The operations of a kind in block b of node v, a node of height k: first those of the left subblocks in place order,
-- then those of the right, each opened likewise. A leaf's block gives the operation that its totals add.
unfoldable pub opened : Shape → List ℕ → Kind → ℕ → ℕ → ℕ → List OpId
opened s t c zero v b =
    if ltb (total c (block_at s t v (b - 1))) (total c (block_at s t v b)) then record { process = v - processes s; serial = b } ∷ [] else []
opened s t c (suc k) v b =
    flat_map (opened s t c k (left_of v)) (subblocks s t onLeft v b) ++ flat_map (opened s t c k (right_of v)) (subblocks s t onRight v b)

-- the operations of a kind in root block b
unfoldable pub in_root : Shape → List ℕ → Kind → ℕ → List OpId
in_root s t c b = opened s t c s.height root b

-- the last present place among the first n of node v, 0 where all are absent
unfoldable pub last_among : Shape → List ℕ → ℕ → ℕ → ℕ
last_among s t v zero = 0
last_among s t v (suc n) = let r = last_among s t v n in if absent (block_at s t v (suc n)) then r else suc n

-- the last root block: the last one present, or block 0 where no later one is
unfoldable pub last_root : Shape → List ℕ → ℕ
last_root s t = last_among s t root (last_place s root)

-- an operation as it stands in the root order: its kind, and its root block
pub record Placed : Type 0 where
  pub op : OpId
  pub kind : Kind
  pub block : ℕ

unfoldable pub placed : Kind → ℕ → OpId → Placed
placed c b x = record { op = x; kind = c; block = b }

-- root block b's puts, then its takes
unfoldable pub block_order : Shape → List ℕ → ℕ → List Placed
block_order s t b = map (placed Puts b) (in_root s t Puts b) ++ map (placed Takes b) (in_root s t Takes b)

-- root order: block 1's puts, its takes, block 2's puts, and so on, over all present root blocks
unfoldable pub root_order : Shape → List ℕ → List Placed
root_order s t = flat_map (block_order s t) (between 0 (last_root s t))

-- the operations in root order
unfoldable pub root_operations : Shape → List ℕ → List OpId
root_operations s t = map (λ (x : Placed). x.op) (root_order s t)

-- the puts in root order
unfoldable pub root_puts : Shape → List ℕ → List OpId
root_puts s t = flat_map (in_root s t Puts) (between 0 (last_root s t))
