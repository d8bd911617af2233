-- What a step record does, told of the process as it is given.
use Prim.Native.Nat.{ℕ, ◌+◌, ◌≤◌, ◌<◌}
use mathlib.Core.Path.{◌≡◌, ap, ◌∙◌, subst}
use mathlib.Core.Bool.{true, false}
use Rattle.record.specs.declared.StepRecord.{StepRecord}
use Rattle.record.specs.StepRecords.{is_step, ill_formed}
use Rattle.tree.specs.Shape.{processes}
use Rattle.steps.specs.declared.Operation.{Operation}
use Rattle.steps.specs.declared.Step.{Step}
use Rattle.steps.specs.declared.Status.TheVariants.{Busy}
use Rattle.steps.specs.declared.Process.{Process}
use Rattle.steps.specs.Rules.{step}
use Rattle.steps.specs.Machine.{process_of, is_idle, is_q, stepped}
use Rattle.calls.specs.declared.Refusal.TheVariants.{StepWhileIdle, AnswersFull}
use Rattle.player.proofs.RecordResults.{Refused, Moved, Finished}
use Rattle.player.proofs.ResultLaws.{idle_refused, full_refused, step_finishes, step_goes}
use Rattle.player.proofs.LoopStates.{Call, State, shape_of, memory_at, machine_at, PlaysAs, Gives}

module _ (c : Call) (t : State) (i : ℕ) (r : StepRecord) (q : Process) (plays : PlaysAs c t r.process q) (formed : ill_formed (processes (shape_of c)) r ≡ false)
    (steps : is_step r ≡ true)
  where
    pub gives_idle : is_idle q.status ≡ true → Gives c t i r (memory_at t) (Refused StepWhileIdle)
    gives_idle e = idle_refused (shape_of c) t.left i (machine_at c t) r formed steps (ap (λ (x : Process). is_idle x.status) plays.here ∙ e)

    module _ (o : Operation) (n : Step) (busy : q.status ≡ Busy o n) where
      is_busy : (process_of (machine_at c t) r.process).status ≡ Busy o n
      is_busy = ap (λ (x : Process). x.status) plays.here ∙ busy

      pub gives_full : is_q n ≡ true → t.left < 16 → Gives c t i r (memory_at t) (Refused AnswersFull)
      gives_full = full_refused (shape_of c) t.left i (machine_at c t) r formed steps o n is_busy

      pub gives_answer : is_q n ≡ true → 16 ≤ t.left → Gives c t i r (memory_at t) (Finished o)
      gives_answer = step_finishes (shape_of c) t.left i (machine_at c t) r formed steps o n is_busy

      pub gives_step : is_q n ≡ false → let z = step (shape_of c) (i + 1) r.process o (memory_at t) n in Gives c t i r z.memory (Moved (stepped q z))
      gives_step e =
          let z = step (shape_of c) (i + 1) r.process o (memory_at t) n in
          subst (λ (y : Process). Gives c t i r z.memory (Moved (stepped y z))) plays.here
          (step_goes (shape_of c) t.left i (machine_at c t) r formed steps o n is_busy e)
