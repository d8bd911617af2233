-- No other table than that of node starts is by its rule.
use Prim.Native.Nat.{ℕ, suc, ◌*◌, ◌-◌, ◌≤◌, ◌<◌}
use native.Mathlib.Omega.{arith}
use native.Mathlib.Decide.{dec_lt}
use mathlib.Core.Path.{◌≡◌, ap, sym, ◌∙◌}
use mathlib.Core.List.{List, []}
use lib.ListN.{length, get_or, length-map}
use lib.Seq.{ext_get_or}
use borrow.Author.Tests.{lt-ltb, le-ltb}
use Rattle.base.proofs.Entries.{entry_map}
use Rattle.tree.specs.Shape.{Shape, processes, shape_for}
use Rattle.node_starts.specs.NodeStarts.{table_most, table_processes, row_nodes, node_start, start_row, node_starts}
use Rattle.node_starts.specs.Rule.{entry_of, RowRule, TableRule}
use Rattle.node_starts.proofs.RuleHolds.{row_length, row_entry, row_for}

module _ (s : Shape) (row : List ℕ) (rule : RowRule s row) where
  only_entry : (v : ℕ) → 1 ≤ v → v ≤ row_nodes → entry_of row v ≡ node_start s v
  unfolding node_start
  only_entry v h k = on (dec_lt v (2 * processes s))
    where
      on : Dec (v < 2 * processes s) → entry_of row v ≡ node_start s v
      on (yes l) = rule.starts v (record { first = h; last = l }) ∙ rw (lt-ltb v (2 * processes s) l)
      on (no l) = let m : 2 * processes s ≤ v = omega arith in rule.lacking v m k ∙ rw (le-ltb v (2 * processes s) m)

  only_row : row ≡ start_row s
  unfolding entry_of
  only_row =
      ext_get_or 0 row (start_row s) (omega (arith, rule.entries, row_length s))
      (λ k h.
      let l : k < row_nodes = omega (arith, rule.entries) in
      let e : suc k - 1 ≡ k = omega arith in
      ap (λ (n : ℕ). get_or row n 0) (sym e) ∙ only_entry (suc k) (omega arith) l ∙ sym (row_entry s k l))

pub only_table : (table : List (List ℕ)) → TableRule table → table ≡ node_starts
unfolding node_starts
only_table table rule =
    ext_get_or [] table node_starts (omega (arith, rule.rows, length-map table_processes row_for))
    (λ i h.
    let k : i < length table_processes = omega (arith, rule.rows) in
    only_row (shape_for (get_or table_processes i 0) table_most) (get_or table i []) (rule.row i k)
    ∙ sym (entry_map row_for table_processes i [] 0 k))
