-- The table of node starts: where each node's part of the work table starts, for L = 24, p = 2, 4 and 8.
use Rattle.std.specs.Prelude.{ℕ, ◌*◌, List, [], ◌∷◌, map, ltb, if◌then◌else◌}
use Rattle.base.specs.Between.{between}
use Rattle.tree.specs.Shape.{Shape, processes, shape_for}
use Rattle.tree.specs.Layout.{part_start}

-- L of the table
unfoldable pub table_most : ℕ
table_most = 24

-- p of each row
unfoldable pub table_processes : List ℕ
table_processes = 2 ∷ 4 ∷ 8 ∷ []

-- a row has an entry for each of nodes 1 to 15
unfoldable pub row_nodes : ℕ
row_nodes = 15

-- the entry of node v: the first word of its part, or 0 if the tree lacks it, its nodes being 1 to 2p − 1
unfoldable pub node_start : Shape → ℕ → ℕ
node_start s v = if ltb v (2 * processes s) then part_start s v else 0

-- a row
unfoldable pub start_row : Shape → List ℕ
start_row s = map (node_start s) (between 0 row_nodes)

-- the table
unfoldable pub node_starts : List (List ℕ)
node_starts = map (λ p. start_row (shape_for p table_most)) table_processes
