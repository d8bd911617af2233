-- What one record does, by the status of the process that it names.
use Prim.Native.Nat.{ℕ, ◌+◌, ◌≤◌, ◌<◌}
use mathlib.Core.Path.{◌≡◌, refl, ap, ◌∙◌}
use mathlib.Core.Bool.{true, false, ◌&&◌}
use lib.Dec.{ltb}
use borrow.Author.Tests.{lt-ltb, le-ltb}
use Rattle.std.specs.Prelude.{Ok, Err, if◌then◌else◌}
use Rattle.record.specs.declared.StepRecord.{StepRecord}
use Rattle.record.specs.StepRecords.{is_step, ill_formed}
use Rattle.record.specs.AnswerRecords.{answer_size}
use Rattle.tree.specs.Shape.{Shape, processes}
use Rattle.steps.specs.declared.Operation.{Operation}
use Rattle.steps.specs.declared.Step.{Step}
use Rattle.steps.specs.declared.Status.TheVariants.{Busy}
use Rattle.steps.specs.declared.Process.{Process}
use Rattle.steps.specs.Rules.{step}
use Rattle.steps.specs.Machine.{Machine, process_of, is_idle, is_q, at_q, begin, stepped, step_from, step_of}
use Rattle.steps.specs.Clauses.Operations.{entered, rested}
use Rattle.steps.proofs.Inside.{is_q_lem}
use Rattle.calls.specs.declared.Refusal.TheVariants.{IllFormed, StepWhileIdle, AnswersFull}
use Rattle.calls.specs.Answer.{answers_from, answers_of}
use Rattle.calls.specs.declared.Refusal.{Refusal}
use Rattle.calls.specs.Refusals.{accepted, begin_refusal, step_refusal, record_refusal}
use Rattle.calls.specs.Numbered.{next_after}
use Rattle.calls.specs.Run.{operation_of, take_record, record_answers}
use Rattle.player.proofs.RecordResults.{Refused, Moved, Finished, ResultOf}

-- an ill-formed record is refused before its process is looked at
pub ill_refused : (s : Shape) (room i : ℕ) (m : Machine) (r : StepRecord) → ill_formed (processes s) r ≡ true → ResultOf s room i m r m.memory (Refused IllFormed)
unfolding record_refusal
ill_refused s room i m r e = (rw e, refl)

module _ (s : Shape) (room i : ℕ) (m : Machine) (r : StepRecord) (formed : ill_formed (processes s) r ≡ false) where
  abbrev q : Process
  q = process_of m r.process

  -- ---- a begin
  module _ (begins : is_step r ≡ false) where
    begin_tests : record_refusal s room q r ≡ begin_refusal s.most q
    unfolding record_refusal
    begin_tests = rw (formed, begins)

    pub begin_refused : (x : Refusal) → begin_refusal s.most q ≡ Err x → ResultOf s room i m r m.memory (Refused x)
    begin_refused x is = (begin_tests ∙ is, refl)

    pub begin_moves : accepted (begin_refusal s.most q) ≡ true → ResultOf s room i m r m.memory (Moved (entered q (operation_of r)))
    unfolding take_record record_answers begin
    begin_moves e = (ap accepted begin_tests ∙ e, rw begins, rw begins)

  -- ---- a step
  module _ (steps : is_step r ≡ true) where
    step_tests : record_refusal s room q r ≡ step_refusal room q
    unfolding record_refusal
    step_tests = rw (formed, steps)

    pub idle_refused : is_idle q.status ≡ true → ResultOf s room i m r m.memory (Refused StepWhileIdle)
    unfolding step_refusal
    idle_refused e = (step_tests ∙ rw e, refl)

    module _ (o : Operation) (n : Step) (busy : q.status ≡ Busy o n) where
      -- where the step is refused for want of room or not
      busy_tests : record_refusal s room q r ≡ (if is_q n && ltb room 16 then Err AnswersFull else Ok tt)
      unfolding step_refusal is_idle at_q answer_size
      busy_tests = step_tests ∙ rw (ap is_idle busy, ap at_q busy)

      step_taken : take_record s m (next_after i r) ≡ step_from s (i + 1) m r.process (Busy o n)
      unfolding take_record step_of
      step_taken = rw steps (ap (step_from s (i + 1) m r.process) busy)

      step_answers : record_answers s m r ≡ answers_from s m r.process (Busy o n)
      unfolding record_answers answers_of
      step_answers = rw steps (ap (answers_from s m r.process) busy)

      -- any step but Q
      pub step_goes : is_q n ≡ false → let z = step s (i + 1) r.process o m.memory n in ResultOf s room i m r z.memory (Moved (stepped q z))
      unfolding accepted answers_from step_from
      step_goes e = (rw (busy_tests, e), step_answers ∙ rw e, step_taken)

      module _ (last : is_q n ≡ true) where
        pub full_refused : room < 16 → ResultOf s room i m r m.memory (Refused AnswersFull)
        full_refused h = (busy_tests ∙ rw (last, lt-ltb _ _ h), refl)

        pub step_finishes : 16 ≤ room → ResultOf s room i m r m.memory (Finished o)
        unfolding accepted answers_from step_from step rested
        step_finishes h = (
          rw (busy_tests, last, le-ltb _ _ h),
          step_answers ∙ rw last,
          step_taken ∙ ap (λ (z : Step). step_from s (i + 1) m r.process (Busy o z)) (is_q_lem n last),
          refl,
          busy ∙ ap (Busy o) (is_q_lem n last),
        )
