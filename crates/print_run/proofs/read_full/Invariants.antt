-- The invariant of the loop: what is read so far has room.
use Rattle.std.proofs.Common.{length, ◌-◌, ◌≤◌}
use Rattle.print_run.proofs.read_full.Given as goal

abbrev pub invariant-loop-done : goal.invariant-loop-done
invariant-loop-done l = l.done ≤ length l.buf

abbrev pub decreases-loop-done : goal.decreases-loop-done
decreases-loop-done l = length l.initial.buf - l.done
