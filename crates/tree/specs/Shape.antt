-- The tree: processes, nodes, heights and places.
use Rattle.std.specs.Prelude.{ℕ, zero, suc, ◌+◌, ◌*◌, ◌^◌, ◌/◌, ◌≤◌, ◌<◌, ltb, eqb, if◌then◌else◌}

-- the shape of a tree: its height H, and L, the most operations of one process
pub record Shape : Type 0 where
  pub height : ℕ
  pub most : ℕ

-- H, for p = 2 to the power H, and the tree for p processes of at most l operations
unfoldable pub height_for : ℕ → ℕ
height_for p = if eqb p 2 then 1 else (if eqb p 4 then 2 else 3)

unfoldable pub shape_for : ℕ → ℕ → Shape
shape_for p l = record { height = height_for p; most = l }

-- p, the number of processes: 2 to the power H
unfoldable pub processes : Shape → ℕ
processes s = 2 ^ s.height

-- the nodes: the root is 1, the children of v are 2v and 2v + 1, and the leaf of process k is p + k
unfoldable pub root : ℕ
root = 1

unfoldable pub left_of : ℕ → ℕ
left_of v = 2 * v

unfoldable pub right_of : ℕ → ℕ
right_of v = 2 * v + 1

unfoldable pub parent_of : ℕ → ℕ
parent_of v = v / 2

unfoldable pub leaf_of : Shape → ℕ → ℕ
leaf_of s k = processes s + k

-- the tree has node v: nodes 1 to 2p − 1
pub record Node (s : Shape) (v : ℕ) : Type 0 where
  pub first : 1 ≤ v
  pub last : v < 2 * processes s

-- the height of node v in a tree of height H, a leaf's being 0: the nodes above the leaves are those of a tree of
-- height H − 1, one higher
unfoldable pub height_in : ℕ → ℕ → ℕ
height_in zero v = 0
height_in (suc H) v = if ltb v (2 ^ suc H) then suc (height_in H v) else 0

unfoldable pub height_of : Shape → ℕ → ℕ
height_of s v = height_in s.height v

-- a node of height k has places 0 to L × 2^k
unfoldable pub last_place : Shape → ℕ → ℕ
last_place s v = s.most * 2 ^ height_of s v
