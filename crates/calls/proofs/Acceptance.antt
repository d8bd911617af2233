-- What it says that a test refuses nothing.
use Rattle.std.specs.Prelude.{Ok, Err, if◌then◌else◌}
use Prim.Native.Nat.{ℕ, ◌≤◌}
use native.Mathlib.Omega.{arith}
use mathlib.Core.Path.{◌≡◌, refl, sym, ◌∙◌}
use mathlib.Core.Logic.{◌≢◌}
use mathlib.Core.Bool.{Bool, true, false, false≢true}
use Rattle.calls.specs.declared.Refusal.{Refusal}
use Rattle.calls.specs.declared.Refusal.TheVariants.{Processes, Operations, TableShort, RecordsTorn}
use Rattle.calls.specs.declared.Refusal.TheVariants.{IllFormed, BeginWhileBusy, StepWhileIdle, BegunAll, AnswersFull, OutputShort, LogTorn, StepAmongBegins}
use Rattle.calls.specs.Refusals.{Acceptance, paper_number, refusal_number, accepted, first_refusal}

-- no refusal has number 0
pub paper_number_above : (n : Refusal) → 1 ≤ paper_number n
unfolding paper_number
paper_number_above Processes = omega arith
paper_number_above Operations = omega arith
paper_number_above TableShort = omega arith
paper_number_above RecordsTorn = omega arith
paper_number_above IllFormed = omega arith
paper_number_above BeginWhileBusy = omega arith
paper_number_above StepWhileIdle = omega arith
paper_number_above BegunAll = omega arith
paper_number_above AnswersFull = omega arith
paper_number_above OutputShort = omega arith
paper_number_above LogTorn = omega arith
paper_number_above StepAmongBegins = omega arith

-- so accepted is number 0
pub accepted_zero : (n : Acceptance) → refusal_number n ≡ 0 → accepted n ≡ true
unfolding accepted refusal_number
accepted_zero (Ok x) e = refl
accepted_zero (Err n) e = absurd (omega (arith, e, paper_number_above n))

pub zero_accepted : (n : Acceptance) → accepted n ≡ true → refusal_number n ≡ 0
unfolding accepted refusal_number
zero_accepted (Ok x) e = refl
zero_accepted (Err n) e = absurd (false≢true e)

pub nonzero_refused : (n : Acceptance) → refusal_number n ≢ 0 → accepted n ≡ false
unfolding accepted refusal_number
nonzero_refused (Ok x) h = absurd (h refl)
nonzero_refused (Err n) h = refl

-- a test that would refuse did not fail, and the next ones refuse nothing
pub passed : (b : Bool) (n : Refusal) (rest : Acceptance) → accepted (if b then Err n else rest) ≡ true → (b ≡ false) × (accepted rest ≡ true)
unfolding accepted
passed true n rest h = absurd (false≢true h)
passed false n rest h = (refl, h)

-- a test that would have been what the call answers did not fail
pub passed_test : (n : Acceptance) (answer : ℕ) → (accepted n ≡ false → answer ≡ refusal_number n) → answer ≡ 0 → accepted n ≡ true
passed_test n answer kept none = on (accepted n) refl
  where
    on : (b : Bool) → accepted n ≡ b → accepted n ≡ true
    on true e = e
    on false e = accepted_zero n (sym (kept e) ∙ none)

-- none of two tests refuses
pub both_accepted : (a b : Acceptance) → accepted (first_refusal a b) ≡ true → (accepted a ≡ true) × (accepted b ≡ true)
unfolding first_refusal accepted
both_accepted (Ok x) b e = (refl, e)
both_accepted (Err n) b e = absurd (false≢true e)

pub first_accepted : (a b : Acceptance) → accepted a ≡ true → accepted b ≡ true → accepted (first_refusal a b) ≡ true
unfolding first_refusal
first_accepted a b p q = rw p q
