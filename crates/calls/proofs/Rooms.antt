-- Room for answers. A run with room for an answer to each operation that its list begins is the run with room for all;
-- so is one with room for p × L answers. For general H.
use Prim.Native.Nat.{ℕ, ◌*◌, ◌-◌, ◌≤◌, ◌<◌}
use native.Mathlib.Omega.{arith}
use native.Mathlib.Nat.{le_refl}
use mathlib.Core.Path.{◌≡◌, refl, ap, sym, ◌∙◌, subst}
use mathlib.Core.Bool.{Bool, true, false, not, ◌&&◌, ◌||◌, false≢true}
use mathlib.Core.List.{List, [], ◌∷◌, ◌++◌, foldl, append-nil}
use lib.ListN.{length}
use lib.Seq.{append_snoc}
use lib.Dec.{ltb, leb, eqb}
use borrow.Author.Tests.{le-ltb}
use Rattle.base.proofs.Cases.{both}
use Rattle.base.proofs.Sums.{sum_part}
use Rattle.record.specs.declared.StepRecord.{StepRecord}
use Rattle.record.specs.StepRecords.{is_step, ill_formed}
use Rattle.record.specs.AnswerRecords.{answer_size}
use Rattle.tree.specs.Shape.{Shape, processes}
use Rattle.steps.specs.declared.Process.{Process}
use Rattle.steps.specs.declared.Status.{Status}
use Rattle.steps.specs.declared.Status.TheVariants.{Idle, Busy}
use Rattle.steps.specs.Machine.{Machine, process_of, is_idle, at_q}
use Rattle.steps.proofs.Overall.{inside}
use Rattle.calls.specs.declared.Refusal.TheVariants.{TableShort, AnswersFull}
use Rattle.calls.specs.Refusals.{Acceptance, paper_number, refusal_number, accepted, begin_refusal, step_refusal, record_refusal}
use Rattle.calls.specs.Numbered.{numbered}
use Rattle.calls.specs.Run.{Played, at_start, taking, refusing, play_record, play}
use Rattle.calls.specs.ListOrder.{play_all}
use Rattle.calls.specs.History.{machine_after}
use Rattle.calls.specs.Forecast.{begin_records}
use Rattle.calls.proofs.Legal.{Legal, formed_low}
use Rattle.calls.specs.CallsBy.{Tests, play_record_by, play_by}
use Rattle.calls.proofs.RunsBy.{by_append}
use Rattle.calls.proofs.Played.{whole_machine, whole_legal, whole_answers, play_append}
use Rattle.calls.proofs.BeginRecords.{begin_records_first, begin_records_most}
use Rattle.calls.proofs.RecordLimit.{list_spent, list_begins}

-- the tests of a record where there is always room for one answer more, and a run by them
abbrev roomy_tests : Tests
roomy_tests s room q r = record_refusal s answer_size q r

abbrev pub play_roomy : Shape → List StepRecord → Played
play_roomy s rs = play_by roomy_tests s 0 rs

-- ---- a record
not_full : (room : ℕ) (x : Status) → (at_q x ≡ true → answer_size ≤ room) → at_q x && ltb room answer_size ≡ false
not_full room x h = on (at_q x) refl
  where
    on : (b : Bool) → at_q x ≡ b → b && ltb room answer_size ≡ false
    on true e = le-ltb room answer_size (h e)
    on false e = refl

step_roomy : (room : ℕ) (q : Process) → (at_q q.status ≡ true → answer_size ≤ room) → step_refusal room q ≡ step_refusal answer_size q
unfolding step_refusal
step_roomy room q h = rw (not_full room q.status h, not_full answer_size q.status (λ e. le_refl answer_size))

record_roomy : (s : Shape) (room : ℕ) (q : Process) (r : StepRecord) → (ill_formed (processes s) r ≡ false → at_q q.status ≡ true → answer_size ≤ room)
    → record_refusal s room q r ≡ record_refusal s answer_size q r
unfolding record_refusal
record_roomy s room q r h = on (ill_formed (processes s) r) refl
  where
    on : (b : Bool) → ill_formed (processes s) r ≡ b → record_refusal s room q r ≡ record_refusal s answer_size q r
    on true e = rw e
    on false e = rw (e, step_roomy room q (h e))

-- a refusal's number is neither 3 nor 9
abbrev pub Fits : ℕ → Type 0
Fits x = eqb x (paper_number TableShort) || eqb x (paper_number AnswersFull) ≡ false

abbrev Roomy : Acceptance → Type 0
Roomy n = Fits (refusal_number n)

record_fits : (s : Shape) (q : Process) (r : StepRecord) → Roomy (record_refusal s answer_size q r)
unfolding record_refusal step_refusal begin_refusal paper_number refusal_number
record_fits s q r =
    both Roomy (ill_formed (processes s) r) refl
    (both Roomy (is_step r) (both Roomy (is_idle q.status) refl (rw (not_full answer_size q.status (λ e. le_refl answer_size)) refl))
    (both Roomy (leb s.most q.begun) refl (both Roomy (not (is_idle q.status)) refl refl)))

-- ---- a run
inside_q : (x : Status) → at_q x ≡ true → inside x ≡ 1
unfolding at_q is_idle
inside_q Idle e = absurd (false≢true e)
inside_q (Busy o n) e = refl

module _ (s : Shape) (tall : 1 ≤ s.height) (room : ℕ) where
  -- there is room for an answer to each operation that the records begin
  abbrev HasRoom : List StepRecord → Type 0
  HasRoom rs = Legal s (numbered rs) → answer_size * length (begin_records rs) ≤ room

  -- so there is for the next one
  module _ (rs : List StepRecord) (r : StepRecord) (fits : HasRoom rs) (ok : accepted (play s room rs).refusal ≡ true) where
    abbrev g : Played
    g = play s room rs

    one_more : r.process < processes s → at_q (process_of g.machine r.process).status ≡ true → answer_size ≤ room - answer_size * length g.answers
    unfolding answer_size
    one_more low q =
        let l : Legal s (numbered rs) = whole_legal s room rs ok in
        let here : at_q (process_of (machine_after s (numbered rs)) r.process).status ≡ true = ap (λ (m : Machine). at_q (process_of m r.process).status) (sym (whole_machine s room rs ok)) ∙ q in
        omega (
          arith,
          fits l,
          (list_spent s tall rs l).answers,
          ap length (whole_answers s room rs ok),
          inside_q (process_of (machine_after s (numbered rs)) r.process).status here,
          sum_part (λ k. inside (process_of (machine_after s (numbered rs)) k).status) (processes s) r.process low,
        )

    met_roomy : record_refusal s (room - answer_size * length g.answers) (process_of g.machine r.process) r ≡ record_refusal s answer_size (process_of g.machine r.process) r
    met_roomy = record_roomy s (room - answer_size * length g.answers) (process_of g.machine r.process) r (λ e q. one_more (formed_low (processes s) r e) q)

  record_same : (rs : List StepRecord) (r : StepRecord) → HasRoom rs → play s room rs ≡ play_roomy s rs → play s room (rs ++ (r ∷ [])) ≡ play_roomy s (rs ++ (r ∷ []))
  unfolding play_record play_record_by
  record_same rs r fits e =
      play_append s room rs (r ∷ [])
      ∙ on (accepted (play s room rs).refusal) refl
      ∙ ap (λ (g : Played). play_record_by roomy_tests s 0 g r) e
      ∙ sym (by_append roomy_tests s 0 rs (r ∷ []))
    where
      on : (b : Bool) → accepted (play s room rs).refusal ≡ b → play_record s room (play s room rs) r ≡ play_record_by roomy_tests s 0 (play s room rs) r
      on true ok = rw (ok, met_roomy rs r fits ok)
      on false ok = rw ok

  records_same : (rs ts : List StepRecord) → ((us vs : List StepRecord) → ts ≡ us ++ vs → HasRoom (rs ++ us)) → play s room rs ≡ play_roomy s rs
      → play s room (rs ++ ts) ≡ play_roomy s (rs ++ ts)
  records_same rs [] fits e = rw (append-nil rs) e
  records_same rs (r ∷ ts) fits e =
      subst (λ (l : List StepRecord). play s room l ≡ play_roomy s l) (append_snoc rs r ts)
      (records_same (rs ++ (r ∷ [])) ts
      (λ us vs z. subst HasRoom (sym (append_snoc rs r us)) (fits (r ∷ us) vs (ap (λ (l : List StepRecord). r ∷ l) z)))
      (record_same rs r (subst HasRoom (append-nil rs) (fits [] (r ∷ ts) refl)) e))

  -- a run that has room for all that its first records begin, wherever it ends
  roomy : (rs : List StepRecord) → ((us vs : List StepRecord) → rs ≡ us ++ vs → HasRoom us) → play s room rs ≡ play_roomy s rs
  unfolding play play_by
  roomy rs fits = records_same [] rs fits refl

  -- room for each operation of the list
  pub begins_roomy : (rs : List StepRecord) → answer_size * length (begin_records rs) ≤ room → play s room rs ≡ play_roomy s rs
  unfolding answer_size
  begins_roomy rs h =
      roomy rs (λ us vs e l. omega (arith, begin_records_first us vs, ap (λ (x : List StepRecord). length (begin_records x)) e))

-- ---- so it is the run with room for all
module _ (s : Shape) (tall : 1 ≤ s.height) (rs : List StepRecord) where
  all_roomy : play_all s rs ≡ play_roomy s rs
  unfolding play_all answer_size
  all_roomy = begins_roomy s tall (answer_size * length rs) rs (omega (arith, begin_records_most rs))

  -- room for an answer to each record
  pub more_room : (room : ℕ) → answer_size * length rs ≤ room → play s room rs ≡ play_all s rs
  unfolding answer_size
  more_room room h = begins_roomy s tall room rs (omega (arith, begin_records_most rs)) ∙ sym all_roomy

  -- room for p × L answers
  pub all_room : (room : ℕ) → answer_size * (processes s * s.most) ≤ room → play s room rs ≡ play_all s rs
  unfolding answer_size
  all_room room h = roomy s tall room rs (λ us vs e l. omega (arith, list_begins s tall us l)) ∙ sym all_roomy

-- ---- and it never lacks room
module _ (s : Shape) where
  fits_on : (rs : List StepRecord) (g : Played) → Roomy g.refusal → Roomy (foldl (play_record_by roomy_tests s 0) g rs).refusal
  unfolding play_record_by taking refusing paper_number refusal_number
  fits_on [] g h = h
  fits_on (r ∷ rs) g h =
      fits_on rs (play_record_by roomy_tests s 0 g r)
      (both (λ (x : Played). Roomy x.refusal) (not (accepted g.refusal)) h
      (both (λ (x : Played). Roomy x.refusal) (accepted (record_refusal s answer_size (process_of g.machine r.process) r)) refl (record_fits s (process_of g.machine r.process) r)))

  pub roomy_fits : (rs : List StepRecord) → Fits (refusal_number (play_roomy s rs).refusal)
  unfolding play_by at_start paper_number refusal_number
  roomy_fits rs = fits_on rs (at_start s) refl

-- so list the order and check a log refuse no record with 9
pub all_fits : (s : Shape) → 1 ≤ s.height → (rs : List StepRecord) → Fits (refusal_number (play_all s rs).refusal)
all_fits s tall rs = rw (all_roomy s tall rs) (roomy_fits s rs)
