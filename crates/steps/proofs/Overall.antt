-- A number for each process by its status, summed over all processes: what a begin and a step do to the sum. What the
-- processes may still take, and how many are inside an operation.
use Rattle.std.specs.Prelude.{if◌then◌else◌}
use Prim.Native.Nat.{ℕ, ◌+◌, ◌≤◌, ◌<◌}
use native.Mathlib.Omega.{arith}
use mathlib.Core.Path.{◌≡◌, refl, ap, sym}
use mathlib.Core.Logic.{◌≢◌}
use mathlib.Core.Bool.{Bool, true, false}
use Rattle.base.specs.Sums.{sum}
use Rattle.base.proofs.Sums.{sum_change, sum_most}
use Rattle.tree.specs.Shape.{Shape, processes}
use Rattle.steps.specs.declared.Operation.{Operation}
use Rattle.steps.specs.declared.Step.{Step}
use Rattle.steps.specs.declared.Step.TheVariants.{A}
use Rattle.steps.specs.declared.Status.{Status}
use Rattle.steps.specs.declared.Status.TheVariants.{Idle, Busy}
use Rattle.steps.specs.declared.Process.{Process}
use Rattle.steps.specs.Process.{idle}
use Rattle.steps.specs.Rules.{step}
use Rattle.steps.specs.Machine.{Machine, start, process_of, is_idle, is_q, begin, step_of}
use Rattle.steps.proofs.Costs.{rest, rest_of}
use Rattle.steps.proofs.Inside.{q_next, still_busy}
use Rattle.steps.proofs.Invariant.{Invariant}
use Rattle.steps.proofs.Keeps.{begun_here, begun_other, rest_lower, stepped_here, stepped_other, start_process}

abbrev pub overall : Shape → (Status → ℕ) → Machine → ℕ
overall s f m = sum (λ k. f (process_of m k).status) (processes s)

-- what the processes may still take
abbrev pub remaining : Shape → Machine → ℕ
remaining s m = overall s (rest_of s) m

-- the processes inside an operation
abbrev pub inside : Status → ℕ
inside x = if is_idle x then 0 else 1

abbrev pub busy : Shape → Machine → ℕ
busy s m = overall s inside m

-- process k is changed, and no other
one_changed : (s : Shape) (m m' : Machine) (k : ℕ) → k < processes s → ((j : ℕ) → j ≢ k → process_of m' j ≡ process_of m j) → (f : Status → ℕ)
    → overall s f m' + f (process_of m k).status ≡ overall s f m + f (process_of m' k).status
one_changed s m m' k kp others f =
    sum_change (λ j. f (process_of m j).status) (λ j. f (process_of m' j).status) (processes s) k kp (λ j ne. ap (λ (p : Process). f p.status) (sym (others j ne)))

-- ---- no process has begun
module _ (s : Shape) where
  start_none : (f : Status → ℕ) → f Idle ≡ 0 → overall s f (start s) ≡ 0
  unfolding idle
  start_none f none =
      omega (arith, sum_most (λ k. f (process_of (start s) k).status) (processes s) 0 (λ k l. omega (arith, ap (λ (p : Process). f p.status) (start_process s k l), none)))

  pub start_remaining : remaining s (start s) ≡ 0
  start_remaining = start_none (rest_of s) refl

  pub start_busy : busy s (start s) ≡ 0
  unfolding is_idle
  start_busy = start_none inside refl

-- ---- a begin
module _ (s : Shape) (m : Machine) (inv : Invariant s m) (k : ℕ) (kp : k < processes s) (o : Operation) (rests : (process_of m k).status ≡ Idle)
    (few : (process_of m k).begun < s.most)
  where
    begin_overall : (f : Status → ℕ) → overall s f (begin m k o) + f Idle ≡ overall s f m + f (Busy o A)
    begin_overall f =
        omega (arith, ap (λ (p : Process). f p.status) (begun_here s m inv k kp o rests few), ap f rests, one_changed s m (begin m k o) k kp (begun_other s m inv k kp o rests few) f)

    -- adds all that an operation may take
    pub begin_remaining : remaining s (begin m k o) ≡ remaining s m + rest s A
    begin_remaining = omega (arith, begin_overall (rest_of s))

    pub begin_busy : busy s (begin m k o) ≡ busy s m + 1
    unfolding is_idle
    begin_busy = omega (arith, begin_overall inside)

-- ---- a step
module _ (s : Shape) (tall : 1 ≤ s.height) (number : ℕ) (m : Machine) (inv : Invariant s m) (k : ℕ) (kp : k < processes s) (o : Operation) (n : Step)
    (is : (process_of m k).status ≡ Busy o n)
  where
    abbrev next : Status
    next = (step s number k o m.memory n).next

    step_overall : (f : Status → ℕ) → overall s f (step_of s number m k) + f (Busy o n) ≡ overall s f m + f next
    step_overall f =
        let others = one_changed s m (step_of s number m k) k kp (stepped_other s tall number m inv k kp o n is) f in
        omega (arith, ap (λ (p : Process). f p.status) (stepped_here s tall number m inv k kp o n is), ap f is, others)

    -- takes one at least
    pub step_remaining : remaining s (step_of s number m k) < remaining s m
    step_remaining = omega (arith, step_overall (rest_of s), rest_lower s tall number m inv k kp o n is)

    -- Q alone leaves the operation
    pub step_busy : busy s (step_of s number m k) + (if is_q n then 1 else 0) ≡ busy s m
    unfolding is_idle
    step_busy = on (is_q n) refl
      where
        on : (b : Bool) → is_q n ≡ b → busy s (step_of s number m k) + (if b then 1 else 0) ≡ busy s m
        on true q = omega (arith, step_overall inside, ap inside (q_next s number k o m.memory n q))
        on false q = omega (arith, step_overall inside, ap {B = ℕ} (λ (b : Bool). if b then 0 else 1) (still_busy s number k o m.memory n q))
