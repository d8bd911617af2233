-- The invariant of the loop: the rows passed are appended.
use Rattle.std.proofs.Common.{◌≡◌, take}
use Rattle.std.specs.List.{flat_map}
use Rattle.print_nodes.specs.NodesText.{row_line}
use Rattle.print_nodes.proofs.table_text.Given as goal

abbrev pub invariant-loop-row : goal.invariant-loop-row
invariant-loop-row l = l.page.bytes ≡ flat_map row_line (take l.row-index l.row-items)
