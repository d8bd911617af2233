-- The history, the counts and the answers agree with the machine that the records left. This is the invariant of a run.
use Prim.Native.Nat.{ℕ, ◌≤◌, ◌<◌}
use mathlib.Core.Path.{◌≡◌}
use mathlib.Core.Bool.{true, false, ◌&&◌}
use mathlib.Core.List.{List, map}
use lib.Dec.{leb}
use Rattle.record.specs.declared.AnswerRecord.{AnswerRecord}
use Rattle.tree.specs.Shape.{Shape, processes}
use Rattle.tree.specs.Memory.{Memory}
use Rattle.tree.specs.Order.{OpId, last_root}
use Rattle.tree.proofs.Reached.{reached}
use Rattle.tree.proofs.Once.{Found}
use Rattle.steps.specs.declared.Operation.{Operation}
use Rattle.steps.specs.declared.Step.{Step}
use Rattle.steps.specs.declared.Step.TheVariants.{A}
use Rattle.steps.specs.declared.Status.TheVariants.{Busy}
use Rattle.steps.specs.Machine.{Machine, process_of, is_idle}
use Rattle.steps.proofs.Costs.{rest}
use Rattle.steps.proofs.Invariant.{Invariant}
use Rattle.calls.specs.History.{Event, operation, is_opened, is_finished, finished_before, own_steps, does}
use Rattle.calls.specs.Demand3.{queue_record, finishing}
use Rattle.calls.proofs.Leaves.{LeavesAre}
use Rattle.calls.proofs.OwnCounts.{counts_of, counts_in}

-- a busy process does the last operation that it began, which has not finished
pub record Doing (h : List Event) (x : OpId) (o : Operation) : Type 0 where
  pub some : 1 ≤ x.serial
  pub what : does x h ≡ o
  pub unfinished : is_finished x h ≡ false

-- when y was opened, the root blocks up to `cut` reached x, and did not reach y
pub record Before (s : Shape) (m : Memory) (x y : OpId) : Type 0 where
  pub cut : ℕ
  pub within : cut ≤ last_root s m.table
  pub first_process : x.process < processes s
  pub second_process : y.process < processes s
  pub first : x.serial ≤ reached s m x.process cut
  pub second : reached s m y.process cut < y.serial

-- an operation that is not finished is the last of its process, and the process is inside it
pub record Running (s : Shape) (m : Machine) (c : ℕ → ℕ) (x : OpId) : Type 0 where
  pub process : x.process < processes s
  pub last : x.serial ≡ c x.process
  pub busy : is_idle (process_of m x.process).status ≡ false

-- c k is the number of operations that process k has begun
pub record Agrees (s : Shape) (m : Machine) (c : ℕ → ℕ) (h : List Event) (log : List AnswerRecord) : Type 0 where
  pub invariant : Invariant s m
  pub counts : (k : ℕ) → k < processes s → (process_of m k).begun ≡ c k
  pub opened : (x : OpId) → is_opened x h ≡ leb 1 x.serial && leb x.serial (c x.process)
  pub unstarted : (x : OpId) → is_opened x h ≡ false → counts_of x h ≡ record { steps = 0; helps = 0 }
  pub unfinished : (x : OpId) → is_opened x h ≡ true → is_finished x h ≡ false → Running s m c x
  pub few : (x : OpId) → own_steps x h ≤ rest s A
  pub current : (k : ℕ) → k < processes s → counts_in (process_of m k) ≡ counts_of (operation k (c k)) h
  pub doing : (k : ℕ) → k < processes s → (o : Operation) (n : Step) → (process_of m k).status ≡ Busy o n → Doing h (operation k (c k)) o
  pub leaves : LeavesAre s m.memory h
  pub finished : (x : OpId) → is_finished x h ≡ true → Found s m.memory x
  pub before : (x y : OpId) → finished_before x y h ≡ true → Before s m.memory x y
  pub answers : log ≡ map (queue_record s m.memory.table h) (finishing h)
