-- `line::operation_name` meets its contract.
use borrow.Author.Rules.{rules}
use Rattle.text.specs.Characters.{ascii}
use Rattle.print.specs.Lines.{operation_name}
use Rattle.print.proofs.line.operation_name.Goals as goal

pub returns-in-Done : goal.returns-in-Done
unfolding operation_name ascii
returns-in-Done c = search rules

pub returns-in-Value : goal.returns-in-Value
unfolding operation_name ascii
returns-in-Value c = search rules
