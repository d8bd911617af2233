-- After every legal list of records, history and machine agree; and what is present stays.
use Rattle.std.specs.Prelude.{if◌then◌else◌}
use Prim.Native.Nat.{ℕ, suc, ◌+◌, ◌≤◌, ◌<◌}
use native.Mathlib.Omega.{arith}
use native.Mathlib.Decide.{ℕ_discrete}
use mathlib.Core.Path.{◌≡◌, refl, ap, sym, ◌∙◌, subst, fun_ext}
use mathlib.Core.Logic.{◌≢◌}
use mathlib.Core.Bool.{Bool, true, false, ◌&&◌, true≢false, false≢true}
use mathlib.Core.List.{List, [], ◌∷◌, ◌++◌, append-nil}
use lib.Dec.{leb}
use borrow.Author.Tests.{eq-eqb, ne_eqb, lt-leb}
use lib.Seq.{append_snoc}
use Rattle.record.specs.declared.StepRecord.{StepRecord}
use Rattle.record.specs.declared.AnswerRecord.{AnswerRecord}
use Rattle.record.specs.StepRecords.{is_step, is_begin}
use Rattle.tree.specs.Shape.{Shape, processes, leaf_of}
use Rattle.tree.specs.Memory.{Memory}
use Rattle.tree.specs.Order.{OpId}
use Rattle.tree.proofs.Later.{Later, later_refl, later_trans}
use Rattle.tree.proofs.Cleared.{cleared_count}
use Rattle.steps.specs.declared.Operation.{Operation}
use Rattle.steps.specs.declared.Step.{Step}
use Rattle.steps.specs.declared.Status.{Status}
use Rattle.steps.specs.declared.Status.TheVariants.{Idle, Busy}
use Rattle.steps.specs.declared.Process.{Process}
use Rattle.steps.specs.Process.{idle}
use Rattle.steps.specs.Machine.{Machine, start, process_of, with_process, is_idle, is_q, at_q, begin, step_of, help_from, help_by}
use Rattle.steps.specs.Rules.{step}
use Rattle.steps.proofs.Keeps.{start_invariant, start_process}
use Rattle.calls.specs.Answer.{answer_of, answers_from, answers_of}
use Rattle.calls.specs.Numbered.{Numbered}
use Rattle.calls.specs.Run.{operation_of, take_record, record_answers}
use Rattle.calls.specs.History.{Event, opens, operation, begun_by, course_start, next_event, course_after, machine_after, history, is_opened, is_finished, finished_before, own_steps, own_helps}
use Rattle.calls.specs.Demand3.{finishing}
use Rattle.calls.proofs.Legal.{Accepted, Legal, none, more, answers_after, answers_along, not_step, not_begin}
use Rattle.calls.proofs.Prefixes.{legal_prefix, legal_accepted}
use Rattle.calls.proofs.Histories.{memory_after, machine_snoc, history_snoc, answers_snoc, begun_snoc}
use Rattle.calls.proofs.OwnCounts.{counts_in}
use Rattle.calls.proofs.Agrees.{Doing, Agrees}
use Rattle.calls.proofs.AfterBegin.{begin_agrees}
use Rattle.calls.proofs.StepEvents.{step_event}
use Rattle.calls.proofs.AfterStep.{StepTaken, later}
use Rattle.calls.proofs.Answered.{step_answers}

-- what is known of the run of a list
abbrev pub Run : Shape → List Numbered → Type 0
Run s ns = Agrees s (machine_after s ns) (λ k. begun_by k (history s ns)) (history s ns) (answers_along s ns)

-- ---- no records
module _ (s : Shape) where
  idle_start : (k : ℕ) → k < processes s → (P : Process → Type 0) → P idle → P (process_of (start s) k)
  idle_start k kp P p = subst P (sym (start_process s k kp)) p

  idle_begun : idle.begun ≡ 0
  unfolding idle
  idle_begun = refl

  idle_counts : counts_in idle ≡ record { steps = 0; helps = 0 }
  unfolding idle
  idle_counts = refl

  idle_status : (o : Operation) (n : Step) → idle.status ≡ Busy o n → ⊥
  unfolding idle
  idle_status o n e = let z : ◌≡◌ {A = ℕ} 0 1 = cc in omega arith

  unopened : (x : OpId) → false ≡ leb 1 x.serial && leb x.serial 0
  unopened x = on (ℕ_discrete x.serial 0)
    where
      on : Dec (x.serial ≡ 0) → false ≡ leb 1 x.serial && leb x.serial 0
      on (yes e) = rw (lt-leb 1 x.serial (omega arith))
      on (no e) = rw (lt-leb x.serial 0 (omega arith)) (sym (mathlib.Core.Bool.and-false (leb 1 x.serial)))

  start_agrees : Run s []
  unfolding machine_after history course_after course_start begun_by answers_along answers_after is_opened is_finished finished_before own_steps own_helps finishing start
  start_agrees =
      record {
        invariant = start_invariant s;
        counts = λ k kp. idle_start k kp (λ p. p.begun ≡ 0) idle_begun;
        opened = unopened;
        unstarted = λ x l. refl;
        unfinished = λ x e f. absurd (false≢true e);
        few = λ x. omega arith;
        current = λ k kp. idle_start k kp (λ p. counts_in p ≡ record { steps = 0; helps = 0 }) idle_counts;
        doing = λ k kp o n. idle_start k kp (λ p. p.status ≡ Busy o n → Doing [] (operation k 0) o) (λ e. absurd (idle_status o n e));
        leaves = λ k kp i f. absurd (omega (arith, cleared_count s (leaf_of s k) (suc i)));
        finished = λ x e. absurd (false≢true e);
        before = λ x y e. absurd (false≢true e);
        answers = refl;
      }

-- ---- one record more
recount : {s : Shape} {m m' : Machine} {c c' : ℕ → ℕ} {h h' : List Event} {log log' : List AnswerRecord} → m ≡ m' → ((k : ℕ) → c k ≡ c' k) → h ≡ h' → log ≡ log'
    → Agrees s m c h log → Agrees s m' c' h' log'
recount {s} {m} {m'} {c} {c'} {h} {h'} {log} {log'} p q r t ag =
    subst (λ (x : Machine). Agrees s x c' h' log') p
    (subst (λ (x : ℕ → ℕ). Agrees s m x h' log') (fun_ext q) (subst (λ (x : List Event). Agrees s m c x log') r (subst (Agrees s m c h) t ag)))

pub busy_status : (x : Status) → is_idle x ≡ false → (o : Operation) × (n : Step) × (x ≡ Busy o n)
unfolding is_idle
busy_status Idle e = absurd (true≢false e)
busy_status (Busy o n) e = (o, n, refl)

module _ (s : Shape) (tall : 1 ≤ s.height) (ns : List Numbered) (n : Numbered) (run : Run s ns) (acc : Accepted s (machine_after s ns) n.item) where
  abbrev r : StepRecord
  r = n.item

  abbrev k : ℕ
  k = r.process

  abbrev m : Machine
  m = machine_after s ns

  abbrev h : List Event
  h = history s ns

  history_more : (e : Event) → next_event s (course_after s ns) n ≡ e → history s (ns ++ (n ∷ [])) ≡ h ++ (e ∷ [])
  history_more e is = history_snoc s ns n ∙ ap (λ (x : Event). h ++ (x ∷ [])) is

  module _ (z : is_step r ≡ false) where
    b : is_begin r ≡ true
    b = not_step r z

    pub taken_begin : take_record s m n ≡ begin m k (operation_of r)
    unfolding take_record
    taken_begin = rw z

    abbrev opening : Event
    opening = opens (operation k (begun_by k h + 1)) (operation_of r)

    event_begin : next_event s (course_after s ns) n ≡ opening
    unfolding next_event history
    event_begin = rw b

    pub none_answered : record_answers s m r ≡ []
    unfolding record_answers
    none_answered = rw z

    one_more : begun_by k (history s (ns ++ (n ∷ []))) ≡ begun_by k h + 1
    one_more = begun_snoc s k ns n ∙ rw (b, eq-eqb k k refl)

    no_more : (j : ℕ) → j ≢ k → begun_by j (history s (ns ++ (n ∷ []))) ≡ begun_by j h
    no_more j ne = begun_snoc s j ns n ∙ rw (b, ne_eqb k j (λ e. ne (sym e))) (omega arith)

    after_begin : Run s (ns ++ (n ∷ []))
    unfolding operation
    after_begin =
        recount (sym (machine_snoc s ns n ∙ taken_begin)) (λ j. refl) (sym (history_more opening event_begin))
        (sym (answers_snoc s ns n ∙ ap (λ (l : List AnswerRecord). answers_along s ns ++ l) none_answered ∙ append-nil (answers_along s ns)))
        (begin_agrees run tall k acc.process_low (operation_of r) (acc.idle b) (acc.within b) (λ j. begun_by j (history s (ns ++ (n ∷ [])))) one_more no_more)

  module _ (z : is_step r ≡ true) where
    pub busy : (o : Operation) × (x : Step) × ((process_of m k).status ≡ Busy o x)
    busy = busy_status (process_of m k).status (acc.busy z)

    abbrev o : Operation
    o = busy.0

    abbrev x : Step
    x = busy.1

    of_step : StepTaken s n.number m (λ j. begun_by j h) h (answers_along s ns) k o x
    of_step = record { agrees = run; tall = tall; low = acc.process_low; busy = busy.2 }

    pub taken_step : take_record s m n ≡ step_of s n.number m k
    unfolding take_record
    taken_step = rw z

    abbrev moving : Event
    moving = step_event (is_q x) (operation k (begun_by k h)) (step s n.number k o m.memory x).helped

    event_step : next_event s (course_after s ns) n ≡ moving
    unfolding next_event history machine_after at_q help_by help_from
    event_step = rw (not_begin r z, busy.2)

    pub answered : record_answers s m r ≡ (if is_q x then answer_of s m k o ∷ [] else [])
    unfolding record_answers answers_of answers_from
    answered = rw (z, busy.2)

    as_many : (j : ℕ) → begun_by j h ≡ begun_by j (history s (ns ++ (n ∷ [])))
    as_many j = sym (begun_snoc s j ns n ∙ rw (not_begin r z) (omega arith))

    after_step : Run s (ns ++ (n ∷ []))
    unfolding operation
    after_step =
        recount (sym (machine_snoc s ns n ∙ taken_step)) as_many (sym (history_more moving event_step))
        (sym (answers_snoc s ns n ∙ ap (λ (l : List AnswerRecord). answers_along s ns ++ l) answered))
        (step_answers of_step)

  after_record : Run s (ns ++ (n ∷ []))
  after_record = on (is_step r) refl
    where
      on : (b : Bool) → is_step r ≡ b → Run s (ns ++ (n ∷ []))
      on true z = after_step z
      on false z = after_begin z

  begin_memory : (begin m k (operation_of r)).memory ≡ m.memory
  unfolding begin with_process
  begin_memory = refl

  -- the memory: a begin leaves it as it is, and a step does what steps do
  pub by_record : (P : Memory → Type 0) → P m.memory
      → ((j : ℕ) → j < processes s → (o : Operation) (x : Step) → (process_of m j).status ≡ Busy o x → P (step_of s n.number m j).memory)
      → P (memory_after s (ns ++ (n ∷ [])))
  by_record P begun stepped = on (is_step r) refl
    where
      on : (b : Bool) → is_step r ≡ b → P (memory_after s (ns ++ (n ∷ [])))
      on true z =
          let at = busy z in
          subst (λ (x : Machine). P x.memory) (sym (machine_snoc s ns n ∙ taken_step z)) (stepped k acc.process_low at.0 at.1 at.2)
      on false z = subst P (sym (ap (λ (x : Machine). x.memory) (machine_snoc s ns n ∙ taken_begin z) ∙ begin_memory)) begun

  later_record : Later s m.memory (memory_after s (ns ++ (n ∷ [])))
  later_record =
      by_record (Later s m.memory) (later_refl s m.memory)
      (λ j low o x at. later (record { agrees = run; tall = tall; low = low; busy = at }))

-- ---- every legal list
pub runs : (s : Shape) → 1 ≤ s.height → {ns : List Numbered} → Legal s ns → Run s ns
runs s tall none = start_agrees s
runs s tall (more {ns} n l a) = after_record s tall ns n (runs s tall l) a

-- what is present after the first records stays as the others are played
pub later_run : (s : Shape) → 1 ≤ s.height → (ns ts : List Numbered) → Legal s (ns ++ ts) → Later s (machine_after s ns).memory (machine_after s (ns ++ ts)).memory
later_run s tall ns [] l = subst (λ (x : List Numbered). Later s (machine_after s ns).memory (machine_after s x).memory) (sym (append-nil ns)) (later_refl s (machine_after s ns).memory)
later_run s tall ns (n ∷ ts) l =
    let e : (ns ++ (n ∷ [])) ++ ts ≡ ns ++ (n ∷ ts) = append_snoc ns n ts in
    later_trans (later_record s tall ns n (runs s tall (legal_prefix s ns (n ∷ ts) l)) (legal_accepted s ns n ts l))
    (subst (λ (x : List Numbered). Later s (machine_after s (ns ++ (n ∷ []))).memory (machine_after s x).memory) e (later_run s tall (ns ++ (n ∷ [])) ts (subst (Legal s) (sym e) l)))
