-- The table's text has 153 bytes, so that each row has room after the rows before it; and the rows are the text.
use Prim.Native.Nat.{ℕ, ◌+◌, ◌≤◌, ◌<◌}
use native.Mathlib.Omega.{arith}
use mathlib.Core.Path.{◌≡◌, refl, ap}
use mathlib.Core.List.{List, []}
use lib.ListN.{length, get_or, take}
use lib.Seq.{take_all}
use Rattle.std.specs.List.{flat_map}
use Rattle.std.proofs.lemmas.List.Folds.{length-flat_map-take}
use Rattle.text.specs.Characters.{ascii}
use Rattle.text.specs.Decimal.{digit, last_digits, decimal, number_field}
use Rattle.node_starts.specs.NodeStarts.{node_starts}
use Rattle.node_starts.specs.All.{node_start_rules}
use Rattle.print_nodes.specs.NodesText.{spaced, row_line, table_text}

text_length : length (flat_map row_line node_starts) ≡ 153
unfolding node_start_rules spaced row_line ascii digit last_digits decimal number_field
text_length = refl

rows : length node_starts ≡ 3
unfolding node_start_rules
rows = refl

module _ {table : List (List ℕ)} (e : table ≡ node_starts) (i : ℕ) where
  pub row_room : i < 3 → length (flat_map row_line (take i table)) + length (row_line (get_or table i [])) ≤ 153
  row_room h = rw e (omega (arith, text_length, length-flat_map-take row_line node_starts i [] (omega (arith, rows))))

  pub text_whole : 3 ≤ i → flat_map row_line (take i table) ≡ table_text node_starts
  unfolding table_text
  text_whole h = rw e (ap (flat_map row_line) (take_all i node_starts (omega (arith, rows))))
