-- `node_starts` meets its contract: antt computes the table that the layout gives and finds the constants, and a law
-- turns that into the rule at each entry.
use mathlib.Core.Path.{refl}
use Rattle.node_starts.specs.All.{node_start_rules}
use Rattle.node_starts.proofs.RuleHolds.{table_rule}
use Rattle.node_starts.proofs.node_starts.Goals as goal

pub returns : goal.returns
unfolding node_start_rules
returns c = record { table = refl; rule = table_rule }
