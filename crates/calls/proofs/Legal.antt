-- Legal lists of records, which no record is refused in, and the answers that they give.
use Rattle.std.specs.Prelude.{if◌then◌else◌}
use Prim.Native.Nat.{ℕ, ◌*◌, ◌≤◌, ◌<◌}
use native.Mathlib.Omega.{arith}
use mathlib.Core.Path.{◌≡◌, refl}
use mathlib.Core.Bool.{Bool, true, false, not, ◌&&◌, ◌||◌, true≢false, false≢true}
use mathlib.Core.List.{List, [], ◌∷◌, ◌++◌}
use lib.ListN.{length}
use lib.Dec.{ltb, leb, eqb}
use borrow.Author.Tests.{leb-false, ltb-false, not-true}
use Rattle.base.proofs.Cases.{cases, or-false}
use Rattle.record.specs.declared.StepRecord.{StepRecord}
use Rattle.record.specs.declared.AnswerRecord.{AnswerRecord}
use Rattle.record.specs.StepRecords.{is_step, is_begin, is_begin_put, ill_formed}
use Rattle.record.specs.AnswerRecords.{answer_size}
use Rattle.tree.specs.Shape.{Shape, processes}
use Rattle.steps.specs.declared.Process.{Process}
use Rattle.steps.specs.declared.Status.{Status}
use Rattle.steps.specs.declared.Status.TheVariants.{Idle, Busy}
use Rattle.steps.specs.Machine.{Machine, process_of, is_idle, is_q, at_q}
use Rattle.calls.specs.Answer.{answers_from, answers_of}
use Rattle.calls.specs.Refusals.{accepted, begin_refusal, step_refusal, record_refusal}
use Rattle.calls.specs.Numbered.{Numbered}
use Rattle.calls.specs.Run.{record_answers}
use Rattle.calls.specs.History.{machine_after}
use Rattle.calls.proofs.Acceptance.{passed}

-- what is known of a record that is not refused on machine m, whatever the room for answers
pub record Accepted (s : Shape) (m : Machine) (r : StepRecord) : Type 0 where
  pub formed : ill_formed (processes s) r ≡ false
  pub process_low : r.process < processes s
  pub idle : is_begin r ≡ true → (process_of m r.process).status ≡ Idle
  pub within : is_begin r ≡ true → (process_of m r.process).begun < s.most
  pub busy : is_step r ≡ true → is_idle (process_of m r.process).status ≡ false

-- records each of which is accepted after those before it
pub data Legal (s : Shape) : List Numbered → Type 0 where
  none : Legal s []
  more : {ns : List Numbered} (n : Numbered) → Legal s ns → Accepted s (machine_after s ns) n.item → Legal s (ns ++ (n ∷ []))

-- the answers that records give which follow others, one after the other
unfoldable pub answers_after : Shape → List Numbered → List Numbered → List AnswerRecord
answers_after s before [] = []
answers_after s before (n ∷ ns) = record_answers s (machine_after s before) n.item ++ answers_after s (before ++ (n ∷ [])) ns

unfoldable pub answers_along : Shape → List Numbered → List AnswerRecord
answers_along s ns = answers_after s [] ns

-- ---- a record that is not refused

-- a record either steps or begins
pub not_step : (r : StepRecord) → is_step r ≡ false → is_begin r ≡ true
unfolding is_begin
not_step r e = rw e

pub no_step : (r : StepRecord) → is_begin r ≡ true → is_step r ≡ false
unfolding is_begin
no_step r e = not-true (is_step r) e

pub not_begin : (r : StepRecord) → is_step r ≡ true → is_begin r ≡ false
unfolding is_begin
not_begin r e = rw e

-- the tests of a begin, of a step and of a record, all failed
begin_passed : (l : ℕ) (q : Process) → accepted (begin_refusal l q) ≡ true → (is_idle q.status ≡ true) × (q.begun < l)
unfolding begin_refusal accepted
begin_passed l q h = on (is_idle q.status) refl (leb l q.begun) refl
  where
    on : (i : Bool) → is_idle q.status ≡ i → (b : Bool) → leb l q.begun ≡ b → (is_idle q.status ≡ true) × (q.begun < l)
    on true z false w = (z, leb-false l q.begun w)
    on true z true w = absurd (false≢true (simp (z, w) at h))
    on false z true w = absurd (false≢true (simp (z, w) at h))
    on false z false w = absurd (false≢true (simp (z, w) at h))

step_passed : (room : ℕ) (q : Process) → accepted (step_refusal room q) ≡ true → (is_idle q.status ≡ false) × (at_q q.status && ltb room answer_size ≡ false)
unfolding step_refusal
step_passed room q h =
    let a = passed (is_idle q.status) _ _ h in
    let b = passed (at_q q.status && ltb room answer_size) _ _ a.1 in
    (a.0, b.0)

record_passed : (s : Shape) (room : ℕ) (q : Process) (r : StepRecord) → accepted (record_refusal s room q r) ≡ true
    → (ill_formed (processes s) r ≡ false) × (accepted (if is_step r then step_refusal room q else begin_refusal s.most q) ≡ true)
unfolding record_refusal
record_passed s room q r h = passed (ill_formed (processes s) r) _ _ h

pub formed_low : (p : ℕ) (r : StepRecord) → ill_formed p r ≡ false → r.process < p
unfolding ill_formed
formed_low p r h =
    leb-false p r.process
    (or-false (leb p r.process) (ltb 2 r.kind)
    (or-false (leb p r.process || ltb 2 r.kind) (not (eqb r.zeros 0))
    (or-false (leb p r.process || ltb 2 r.kind || not (eqb r.zeros 0)) (not (is_begin_put r) && not (eqb r.value 0)) h).0).0).0

idle_status : (x : Status) → is_idle x ≡ true → x ≡ Idle
unfolding is_idle
idle_status Idle e = refl
idle_status (Busy o n) e = absurd (true≢false (cc))

pub accept : (s : Shape) (room : ℕ) (m : Machine) (r : StepRecord) → accepted (record_refusal s room (process_of m r.process) r) ≡ true → Accepted s m r
accept s room m r h =
    let q : Process = process_of m r.process in
    let u = record_passed s room q r h in
    let begins : is_begin r ≡ true → (is_idle q.status ≡ true) × (q.begun < s.most) = λ e. begin_passed s.most q (rw (no_step r e) at u.1) in
    record {
      formed = u.0;
      process_low = formed_low (processes s) r u.0;
      idle = λ e. idle_status q.status (begins e).0;
      within = λ e. (begins e).1;
      busy = λ e. (step_passed room q (rw e at u.1)).0;
    }

-- the answers that it gives have room
status_room : (s : Shape) (room : ℕ) (m : Machine) (k : ℕ) (x : Status) → at_q x && ltb room answer_size ≡ false → answer_size * length (answers_from s m k x) ≤ room
unfolding at_q answers_from answer_size
status_room s room m k Idle e = omega arith
status_room s room m k (Busy o n) e =
    cases (λ (l : List AnswerRecord). 16 * length l ≤ room) (is_q n) (λ z. omega (arith, ltb-false room 16 (rw z at e))) (λ z. omega arith)

pub answers_room : (s : Shape) (room : ℕ) (m : Machine) (r : StepRecord) → accepted (record_refusal s room (process_of m r.process) r) ≡ true
    → answer_size * length (record_answers s m r) ≤ room
unfolding record_answers answers_of answer_size
answers_room s room m r h =
    let q : Process = process_of m r.process in
    let u = record_passed s room q r h in
    cases (λ (l : List AnswerRecord). 16 * length l ≤ room) (is_step r)
    (λ z. status_room s room m r.process q.status (step_passed room q (rw z at u.1)).1)
    (λ z. omega arith)
