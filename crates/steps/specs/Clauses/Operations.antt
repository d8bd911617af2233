-- How a process enters an operation, and how it rests after one.
use Rattle.std.specs.Prelude.{◌+◌}
use Rattle.steps.specs.declared.Operation.{Operation}
use Rattle.steps.specs.declared.Process.{Process}
use Rattle.steps.specs.declared.Status.TheVariants.{Idle, Busy}
use Rattle.steps.specs.declared.Step.TheVariants.{A}

-- a process after a begin: it is inside of operation o and comes to A
abbrev pub entered : Process → Operation → Process
entered q o = record { status = Busy o A; begun = q.begun + 1; steps = 0; helps = 0 }

-- a process after the last step of its operation
unfoldable pub rested : Process → Process
rested q = record { status = Idle; begun = q.begun; steps = q.steps + 1; helps = q.helps }
