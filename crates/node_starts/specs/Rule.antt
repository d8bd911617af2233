-- The rule of the table of node starts, by the parts that its entries tell.
use Rattle.std.specs.Prelude.{ℕ, ◌+◌, ◌*◌, ◌-◌, ◌≤◌, ◌<◌, ◌≡◌, List, [], length, get_or}
use Rattle.tree.specs.Shape.{Shape, processes, shape_for, Node}
use Rattle.tree.specs.Layout.{part_start, part_words, words_needed}
use Rattle.node_starts.specs.NodeStarts.{table_most, table_processes, row_nodes}

-- the entry of node v in a row, whose first is that of node 1
unfoldable pub entry_of : List ℕ → ℕ → ℕ
entry_of row v = get_or row (v - 1) 0

-- word i of the work table is in node v's part, which starts at v's entry
pub record InPart (s : Shape) (row : List ℕ) (v i : ℕ) : Type 0 where
  pub from : entry_of row v ≤ i
  pub below : i < entry_of row v + part_words s v

-- the parts of a row do not overlap: no word is in two of them
unfoldable pub Apart : Shape → List ℕ → Type 0
Apart s row = (u v i : ℕ) → Node s u → Node s v → InPart s row u i → InPart s row v i → u ≡ v

-- the parts of a row end within the words needed
unfoldable pub Within : Shape → List ℕ → Type 0
Within s row = (v : ℕ) → Node s v → entry_of row v + part_words s v ≤ words_needed s

-- a row: the entry of each node of the tree is the start that the layout gives, that of a node that the tree lacks is
-- 0, and the parts do not overlap and end within the words needed
pub record RowRule (s : Shape) (row : List ℕ) : Type 0 where
  pub entries : length row ≡ row_nodes
  pub starts : (v : ℕ) → Node s v → entry_of row v ≡ part_start s v
  pub lacking : (v : ℕ) → 2 * processes s ≤ v → v ≤ row_nodes → entry_of row v ≡ 0
  pub apart : Apart s row
  pub within : Within s row

-- the table: a row for each p, each by the rule
pub record TableRule (table : List (List ℕ)) : Type 0 where
  pub rows : length table ≡ length table_processes
  pub row : (i : ℕ) → i < length table_processes → RowRule (shape_for (get_or table_processes i 0) table_most) (get_or table i [])
