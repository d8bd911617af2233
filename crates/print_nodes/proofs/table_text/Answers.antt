-- `table_text` meets its contract.
use native.Mathlib.Omega.{arith}
use mathlib.Core.Path.{ap, ◌∙◌}
use lib.ListN.{length}
use Rattle.print_nodes.proofs.TableText.{row_room, text_whole}
use Rattle.print_nodes.proofs.table_text.Goals as goal

pub put_row-requires : goal.put_row-requires
put_row-requires c =
    omega (
      arith,
      ap length c.loop-row.invariant,
      row_room c.node_starts-table.ensures.table c.loop-row.row-index c.loop-row-test.true,
    )

pub returns : goal.returns
returns c =
    c.loop-row.invariant ∙ text_whole c.node_starts-table.ensures.table c.loop-row.row-index c.loop-row-test.false
