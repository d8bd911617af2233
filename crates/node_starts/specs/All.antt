-- One name for all definitions of the table, for proofs by computation: what unfolds it unfolds them.
use Rattle.tree.specs.All.{trees}
use Rattle.node_starts.specs.NodeStarts.{table_most, table_processes, row_nodes, node_start, start_row, node_starts}
use Rattle.node_starts.specs.Rule.{entry_of, Apart, Within}

unfoldable pub node_start_rules : Unit {0}
unfolding trees table_most table_processes row_nodes node_start start_row node_starts entry_of Apart Within
node_start_rules = tt
