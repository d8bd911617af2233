-- Where history and machine agree, the history is wait-free: an operation that has not responded has own steps left.
use Prim.Native.Nat.{ℕ, ◌≤◌, ◌<◌}
use native.Mathlib.Omega.{arith}
use mathlib.Core.Path.{◌≡◌, refl, ap, sym, ◌∙◌}
use mathlib.Core.Bool.{Bool, true, false, true≢false}
use mathlib.Core.List.{List}
use Rattle.record.specs.declared.AnswerRecord.{AnswerRecord}
use Rattle.tree.specs.Shape.{Shape, processes}
use Rattle.tree.specs.Order.{OpId}
use Rattle.steps.specs.declared.Step.TheVariants.{A}
use Rattle.steps.specs.declared.Status.{Status}
use Rattle.steps.specs.declared.Status.TheVariants.{Idle, Busy}
use Rattle.steps.specs.Machine.{Machine, process_of, is_idle}
use Rattle.steps.proofs.Costs.{rest, rest_first}
use Rattle.steps.proofs.Keeps.{steps_left}
use Rattle.calls.specs.History.{Event, operation, is_opened, is_finished, own_steps}
use Rattle.calls.specs.Demand3.{step_limit}
use Rattle.calls.specs.Linearizable.{WaitFree}
use Rattle.calls.proofs.OwnCounts.{OwnCounts}
use Rattle.calls.proofs.Agrees.{Running, Agrees}
use Rattle.calls.proofs.Holds.{kept}

module _ {s : Shape} {m : Machine} {c : ℕ → ℕ} {h : List Event} {log : List AnswerRecord} (ag : Agrees s m c h log) (tall : 1 ≤ s.height) where
  -- an operation that runs has taken fewer own steps than the bound
  busy_fewer : (k : ℕ) → k < processes s → (x : Status) → (process_of m k).status ≡ x → is_idle x ≡ false → (process_of m k).steps < rest s A
  unfolding is_idle
  busy_fewer k kp Idle e b = absurd (true≢false b)
  busy_fewer k kp (Busy o n) e b = steps_left s tall 0 m ag.invariant k kp o n e

  running_fewer : (x : OpId) → Running s m c x → own_steps x h < step_limit s
  unfolding step_limit operation
  running_fewer x r =
      let k : ℕ = x.process in
      let own : (process_of m k).steps ≡ own_steps x h = ap (λ (z : OwnCounts). z.steps) (ag.current k r.process) ∙ ap (λ (i : ℕ). own_steps (operation k i) h) (sym r.last) in
      omega (arith, own, busy_fewer k r.process (process_of m k).status refl r.busy, rest_first s tall)

  unopened_fewer : (x : OpId) → is_opened x h ≡ false → own_steps x h < step_limit s
  unfolding step_limit
  unopened_fewer x e = omega (arith, ap (λ (z : OwnCounts). z.steps) (ag.unstarted x e))

  responds : (x : OpId) → is_finished x h ≡ false → own_steps x h < step_limit s
  responds x e = on (is_opened x h) refl
    where
      on : (o : Bool) → is_opened x h ≡ o → own_steps x h < step_limit s
      on true p = running_fewer x (ag.unfinished x p e)
      on false p = unopened_fewer x p

  pub wait_free : WaitFree (step_limit s) h
  wait_free = record { within = (kept ag tall).steps_bounded; responds = responds }
