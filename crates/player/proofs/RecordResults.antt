-- What one record does to the process that it names and to the memory.
use Rattle.std.specs.Prelude.{Err}
use Prim.Native.Nat.{ℕ}
use mathlib.Core.Path.{◌≡◌}
use mathlib.Core.Bool.{true}
use mathlib.Core.List.{[], ◌∷◌}
use Rattle.record.specs.declared.StepRecord.{StepRecord}
use Rattle.tree.specs.Shape.{Shape}
use Rattle.tree.specs.Memory.{Memory}
use Rattle.steps.specs.declared.Operation.{Operation}
use Rattle.steps.specs.declared.Process.{Process}
use Rattle.steps.specs.declared.Status.TheVariants.{Busy}
use Rattle.steps.specs.declared.Step.TheVariants.{Q}
use Rattle.steps.specs.Machine.{Machine, process_of, with_process}
use Rattle.steps.specs.Clauses.Operations.{rested}
use Rattle.calls.specs.Answer.{answer_of}
use Rattle.calls.specs.declared.Refusal.{Refusal}
use Rattle.calls.specs.Refusals.{accepted, record_refusal}
use Rattle.calls.specs.Numbered.{next_after}
use Rattle.calls.specs.Run.{take_record, record_answers}

-- a record is refused, or the process that it names moves on and is then as given, or that finishes its operation
pub data RecordResult : Type 0 where
  Refused : Refusal → RecordResult
  Moved : Process → RecordResult
  Finished : Operation → RecordResult

-- record r, which follows i others, on machine m, where there are `room` answer bytes left, has this result and leaves
-- memory n
abbrev pub ResultOf : Shape → ℕ → ℕ → Machine → StepRecord → Memory → RecordResult → Type 0
ResultOf s room i m r n (Refused x) =
    (record_refusal s room (process_of m r.process) r ≡ Err x) × (n ≡ m.memory)
ResultOf s room i m r n (Moved q) =
    (accepted (record_refusal s room (process_of m r.process) r) ≡ true)
    × (record_answers s m r ≡ [])
    × (take_record s m (next_after i r) ≡ with_process m r.process q n)
ResultOf s room i m r n (Finished o) =
    (accepted (record_refusal s room (process_of m r.process) r) ≡ true)
    × (record_answers s m r ≡ answer_of s m r.process o ∷ [])
    × (take_record s m (next_after i r) ≡ with_process m r.process (rested (process_of m r.process)) n)
    × (n ≡ m.memory)
    × ((process_of m r.process).status ≡ Busy o Q)
