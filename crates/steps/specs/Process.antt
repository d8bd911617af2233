-- A process at the start, and the limits.
use Rattle.std.specs.Prelude.{ℕ, Bool, ◌&&◌, ◌||◌, leb, eqb}
use Rattle.steps.specs.declared.Process.{Process}
use Rattle.steps.specs.declared.Status.TheVariants.{Idle}

-- idle, with no operations begun
unfoldable pub idle : Process
idle = record { status = Idle; begun = 0; steps = 0; helps = 0 }

-- p is 2, 4 or 8
unfoldable pub processes_allowed : ℕ → Bool
processes_allowed p = eqb p 2 || eqb p 4 || eqb p 8

-- L is 1 to 500
unfoldable pub operations_allowed : ℕ → Bool
operations_allowed l = leb 1 l && leb l 500
