-- The invariant of the loop: the lines of the answers passed are appended.
use Rattle.std.proofs.Common.{◌≡◌, ◌++◌}
use Rattle.print.specs.Printed.{answer_lines}
use Rattle.print.proofs.page.put_lines.Given as goal

abbrev pub invariant-loop-bytes : goal.invariant-loop-bytes
invariant-loop-bytes g l = l.page.bytes ≡ l.initial.page.bytes ++ answer_lines l.answers l.bytes-index
