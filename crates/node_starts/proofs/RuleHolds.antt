-- The table of node starts is by its rule.
use Prim.Native.Nat.{ℕ, suc, ◌*◌, ◌-◌, ◌^◌, ◌≤◌, ◌<◌}
use native.Mathlib.Omega.{arith}
use native.Mathlib.Decide.{dec_lt}
use mathlib.Core.Path.{◌≡◌, ap, ◌∙◌}
use mathlib.Core.List.{List, []}
use lib.Dec.{eqb}
use lib.ListN.{length, get_or, length-map}
use borrow.Author.Tests.{lt-ltb, le-ltb}
use Rattle.base.specs.Between.{between}
use Rattle.base.proofs.Cases.{both}
use Rattle.base.proofs.Entries.{entry_map, between_length, between_entry}
use Rattle.tree.specs.Shape.{Shape, processes, height_for, shape_for, Node}
use Rattle.tree.specs.Layout.{part_start}
use Rattle.tree.proofs.Parts.{start_after}
use Rattle.tree.proofs.Sizes.{part_within}
use Rattle.tree.proofs.Nodes.{root_node}
use Rattle.node_starts.specs.NodeStarts.{table_most, table_processes, row_nodes, node_start, start_row, node_starts}
use Rattle.node_starts.specs.Rule.{entry_of, InPart, Apart, Within, RowRule, TableRule}

-- ---- parts whose starts are those of the layout
module _ (s : Shape) (row : List ℕ) (starts : (v : ℕ) → Node s v → entry_of row v ≡ part_start s v) where
  -- a word in two parts is in no later one
  not_later : (u v i : ℕ) → Node s u → Node s v → InPart s row u i → InPart s row v i → u < v → ⊥
  not_later u v i m n p q h =
      omega (arith, starts u m, starts v n, start_after s u v h, p.below, q.from)

  apart : Apart s row
  unfolding Apart
  apart u v i m n p q = on (dec_lt u v) (dec_lt v u)
    where
      on : Dec (u < v) → Dec (v < u) → u ≡ v
      on (yes h) _ = absurd (not_later u v i m n p q h)
      on (no _) (yes h) = absurd (not_later v u i n m q p h)
      on (no h) (no k) = omega arith

  within : Within s row
  unfolding Within
  within v n = rw (starts v n) (part_within s v n.last)

-- ---- entries of a row
pub row_length : (s : Shape) → length (start_row s) ≡ row_nodes
unfolding start_row
row_length s = length-map (between 0 row_nodes) (node_start s) ∙ between_length 0 row_nodes ∙ omega arith

pub row_entry : (s : Shape) (k : ℕ) → k < row_nodes → get_or (start_row s) k 0 ≡ node_start s (suc k)
unfolding start_row
row_entry s k h =
    entry_map (node_start s) (between 0 row_nodes) k 0 0 (rw (between_length 0 row_nodes) (omega arith))
    ∙ ap (node_start s) (between_entry 0 row_nodes k (omega arith) ∙ omega arith)

-- ---- a row of the table, for at most 8 processes
module _ (s : Shape) (few : processes s ≤ 8) where
  in_row : (v : ℕ) → Node s v → v ≤ row_nodes
  unfolding row_nodes
  in_row v n = omega (arith, n.last)

  entry_of_lem : (v : ℕ) → 1 ≤ v → v ≤ row_nodes → entry_of (start_row s) v ≡ node_start s v
  unfolding entry_of
  entry_of_lem v h k = row_entry s (v - 1) (omega arith) ∙ ap (node_start s) (omega arith)

  starts_of : (v : ℕ) → Node s v → entry_of (start_row s) v ≡ part_start s v
  unfolding node_start
  starts_of v n = entry_of_lem v n.first (in_row v n) ∙ rw (lt-ltb v (2 * processes s) n.last)

  row_rule : RowRule s (start_row s)
  unfolding node_start
  row_rule = record {
    entries = row_length s;
    starts = starts_of;
    lacking = λ v h k. entry_of_lem v (omega (arith, (root_node s).last)) k ∙ rw (le-ltb v (2 * processes s) (omega arith));
    apart = apart s (start_row s) starts_of;
    within = within s (start_row s) starts_of;
  }

-- ---- the table
few_processes : (p : ℕ) → processes (shape_for p table_most) ≤ 8
unfolding processes shape_for height_for
few_processes p = both (λ (h : ℕ). 2 ^ h ≤ 8) (eqb p 2) (omega arith) (both (λ (h : ℕ). 2 ^ h ≤ 8) (eqb p 4) (omega arith) (omega arith))

abbrev pub row_for : ℕ → List ℕ
row_for p = start_row (shape_for p table_most)

pub table_rule : TableRule node_starts
unfolding node_starts
table_rule = record {
  rows = length-map table_processes row_for;
  row = λ i h.
      let p = get_or table_processes i 0 in
      rw (entry_map row_for table_processes i [] 0 h) (row_rule (shape_for p table_most) (few_processes p));
}
