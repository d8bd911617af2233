-- The machine: the shared memory and the processes, and what one begin and one step do to it.
use Rattle.std.specs.Prelude.{ℕ, ◌+◌, ◌*◌, Bool, true, false, List, get_or, set, replicate, if◌then◌else◌}
use Rattle.tree.specs.Shape.{Shape, processes}
use Rattle.tree.specs.Layout.{words_needed}
use Rattle.steps.specs.declared.Operation.{Operation}
use Rattle.steps.specs.declared.Step.{Step}
use Rattle.steps.specs.declared.Step.TheVariants.{A, V1, V2, V3, R1, R2, R3, R4, R5, C1, C2, C3L, C3R, C3N, C4, Q}
use Rattle.steps.specs.declared.Status.{Status}
use Rattle.steps.specs.declared.Status.TheVariants.{Idle, Busy}
use Rattle.steps.specs.declared.Process.{Process}
use Rattle.steps.specs.Process.{idle}
use Rattle.tree.specs.Memory.{Memory, memory_of}
use Rattle.steps.specs.Rules.{Stepped, step}

pub record Machine : Type 0 where
  pub memory : Memory
  pub processes : List Process

-- at the start the needed words are zero, each head is 1 and every process is idle
unfoldable pub start : Shape → Machine
start s =
    record {
      memory = memory_of (replicate (words_needed s) 0) (replicate (2 * processes s) 1);
      processes = replicate (processes s) idle;
    }

unfoldable pub process_of : Machine → ℕ → Process
process_of m k = get_or m.processes k idle

-- the machine with another memory, in which process k is p
unfoldable pub with_process : Machine → ℕ → Process → Memory → Machine
with_process m k p memory = record { memory = memory; processes = set m.processes k p }

-- where a process is: idle, or at Q
unfoldable pub is_idle : Status → Bool
is_idle Idle = true
is_idle (Busy o n) = false

unfoldable pub is_q : Step → Bool
is_q A = false
is_q (V1 a w v h) = false
is_q (V2 a w v h x) = false
is_q (V3 a w v h) = false
is_q (R1 x v) = false
is_q (R2 w) = false
is_q (R3 w c) = false
is_q (R4 w) = false
is_q (R5 w c) = false
is_q (C1 w) = false
is_q (C2 w l) = false
is_q (C3L w l r) = false
is_q (C3R w l r puts takes) = false
is_q (C3N w l r puts takes) = false
is_q (C4 w n) = false
is_q Q = true

unfoldable pub at_q : Status → Bool
at_q Idle = false
at_q (Busy o n) = is_q n

-- a begin: process k opens operation o, and comes to A
unfoldable pub begin : Machine → ℕ → Operation → Machine
begin m k o =
    with_process m k (record { status = Busy o A; begun = (process_of m k).begun + 1; steps = 0; helps = 0 }) m.memory

-- process p after a step: one own step more, and one help more if it was one
abbrev pub stepped : Process → Stepped → Process
stepped p r =
    record { status = r.next; begun = p.begun; steps = p.steps + 1; helps = if r.helped then p.helps + 1 else p.helps }

-- the record with this number is a step of process k, whose status is given; an idle process has none
unfoldable pub step_from : Shape → ℕ → Machine → ℕ → Status → Machine
step_from s number m k Idle = m
step_from s number m k (Busy o n) =
    let r = step s number k o m.memory n in with_process m k (stepped (process_of m k) r) r.memory

unfoldable pub step_of : Shape → ℕ → Machine → ℕ → Machine
step_of s number m k = step_from s number m k (process_of m k).status

-- what that step tells: whether it is a help
unfoldable pub help_from : Shape → ℕ → Machine → ℕ → Status → Bool
help_from s number m k Idle = false
help_from s number m k (Busy o n) = (step s number k o m.memory n).helped

unfoldable pub help_by : Shape → ℕ → Machine → ℕ → Bool
help_by s number m k = help_from s number m k (process_of m k).status
