-- A begin keeps the agreement of history and machine.
use Prim.Native.Nat.{ℕ, suc, ◌+◌, ◌≤◌, ◌<◌}
use native.Mathlib.Omega.{arith}
use native.Mathlib.Decide.{dec_le, ℕ_discrete}
use native.Mathlib.Nat.{le_refl}
use mathlib.Core.Path.{◌≡◌, refl, ap, sym, ◌∙◌, subst}
use mathlib.Core.Logic.{◌≢◌}
use mathlib.Core.Bool.{Bool, true, false, ◌&&◌, ◌||◌, and-false, or-false as or_none, or-true as or_one, true≢false}
use mathlib.Core.List.{List, [], ◌∷◌, ◌++◌, map, append-nil}
use lib.Dec.{leb}
use borrow.Author.Tests.{le-leb, lt-leb}
use Rattle.base.proofs.Cases.{and-true, or-false}
use Rattle.record.specs.declared.AnswerRecord.{AnswerRecord}
use Rattle.tree.specs.Shape.{Shape, processes, leaf_of}
use Rattle.tree.specs.Memory.{block}
use Rattle.tree.specs.Order.{OpId, last_root}
use Rattle.tree.specs.Standing.{same}
use Rattle.tree.proofs.Later.{later_refl}
use Rattle.tree.proofs.LastRoot.{last_written}
use Rattle.tree.proofs.Names.{same_refl, same_eq, other_process, other_serial}
use Rattle.tree.proofs.Reached.{reached, reached_present}
use Rattle.tree.proofs.Once.{Found}
use Rattle.steps.specs.declared.Operation.{Operation}
use Rattle.steps.specs.declared.Step.{Step}
use Rattle.steps.specs.declared.Step.TheVariants.{A}
use Rattle.steps.specs.declared.Status.TheVariants.{Idle, Busy}
use Rattle.steps.specs.declared.Process.{Process}
use Rattle.steps.specs.Machine.{Machine, process_of, with_process, is_idle, begin}
use Rattle.steps.proofs.Keeps.{begin_keeps, begun_here, begun_other}
use Rattle.calls.specs.History.{Event, opens, operation, is_opening, is_own_step, is_own_help, is_finish, is_opened, is_finished, finished_before, own_steps, own_helps, does}
use Rattle.calls.specs.Demand3.{queue_record, finishing}
use Rattle.calls.proofs.Histories.{is_opened-snoc, is_finished-snoc, own_steps-snoc, own_helps-snoc, does_append, finishing_append, finished_before-snoc}
use Rattle.calls.proofs.Leaves.{IsBlockOf, LeavesAre}
use Rattle.calls.proofs.OwnCounts.{OwnCounts, counts_of, counts_in}
use Rattle.calls.proofs.Agrees.{Doing, Before, Running, Agrees}
use Rattle.calls.proofs.Events.{does_kept, or_cases}
use Rattle.calls.proofs.RecordsStay.{leaf_begun, opened_yes, records_kept}

module _ {s : Shape} {m : Machine} {c : ℕ → ℕ} {h : List Event} {log : List AnswerRecord} (ag : Agrees s m c h log) (tall : 1 ≤ s.height) (k : ℕ) (kp : k < processes s)
    (o : Operation) (rests : (process_of m k).status ≡ Idle) (few : (process_of m k).begun < s.most) (c' : ℕ → ℕ) (here : c' k ≡ c k + 1)
    (there : (j : ℕ) → j ≢ k → c' j ≡ c j)
  where
    abbrev y : OpId
    y = record { process = k; serial = c k + 1 }

    abbrev e : Event
    e = opens y o

    abbrev h' : List Event
    h' = h ++ (e ∷ [])

    rises : (j : ℕ) → c j ≤ c' j
    rises j = on (ℕ_discrete j k)
      where
        on : Dec (j ≡ k) → c j ≤ c' j
        on (yes z) = rw z (omega arith)
        on (no z) = omega (arith, there j z)

    -- no block of the root reaches the new operation
    unreached : reached s m.memory k (last_root s m.memory.table) ≤ c k
    unreached = on (dec_le (reached s m.memory k (last_root s m.memory.table)) (c k))
      where
        on : Dec (reached s m.memory k (last_root s m.memory.table) ≤ c k) → reached s m.memory k (last_root s m.memory.table) ≤ c k
        on (yes l) = l
        on (no l) =
            absurd (omega (
              arith,
              leaf_begun ag tall k kp (c k + 1)
                  (reached_present s m.memory ag.invariant.sound tall k kp (last_root s m.memory.table) (last_written s m.memory ag.invariant.sound) (c k + 1)
                  (omega arith) (omega arith)),
            ))

    -- ---- what a begin does to counts
    counts_kept : (x : OpId) → counts_of x h' ≡ counts_of x h
    unfolding is_own_step is_own_help
    counts_kept x =
        let steps : own_steps x h' ≡ own_steps x h = own_steps-snoc x h e ∙ omega arith in
        let helps : own_helps x h' ≡ own_helps x h = own_helps-snoc x h e ∙ omega arith in
        λ i. record { steps = steps i; helps = helps i }

    finished_kept : (x : OpId) → is_finished x h' ≡ is_finished x h
    unfolding is_finish
    finished_kept x = is_finished-snoc x h e ∙ or_none (is_finished x h)

    new_unopened : is_opened y h ≡ false
    new_unopened = ag.opened y ∙ rw (lt-leb (c k + 1) (c k) (omega arith), and-false (leb 1 (c k + 1)))

    opened' : (x : OpId) → is_opened x h' ≡ leb 1 x.serial && leb x.serial (c' x.process)
    unfolding is_opening
    opened' x = is_opened-snoc x h e ∙ rw (ag.opened x) (on (ℕ_discrete x.process k) (ℕ_discrete x.serial (c k + 1)))
      where
        old : same x y ≡ false → leb x.serial (c x.process) ≡ leb x.serial (c' x.process)
            → leb 1 x.serial && leb x.serial (c x.process) || same x y ≡ leb 1 x.serial && leb x.serial (c' x.process)
        old z w = rw (z, w) (or_none (leb 1 x.serial && leb x.serial (c' x.process)))

        below : (j : ℕ) → j ≡ k → Dec (x.serial ≤ c k) → x.serial ≢ c k + 1 → leb x.serial (c j) ≡ leb x.serial (c' j)
        below j z (yes l) w = rw (z, le-leb x.serial (c k) l, le-leb x.serial (c' k) (omega arith))
        below j z (no l) w = rw (z, lt-leb x.serial (c k) (omega arith), lt-leb x.serial (c' k) (omega (arith, w)))

        on : Dec (x.process ≡ k) → Dec (x.serial ≡ c k + 1)
            → leb 1 x.serial && leb x.serial (c x.process) || same x y ≡ leb 1 x.serial && leb x.serial (c' x.process)
        on (no z) d = old (other_process x y z) (ap (leb x.serial) (sym (there x.process z)))
        on (yes z) (no w) = old (other_serial x y w) (below x.process z (dec_le x.serial (c k)) w)
        on (yes z) (yes w) =
            let g : x ≡ y = λ i. record { process = z i; serial = w i } in
            let a : leb 1 x.serial ≡ true = le-leb 1 x.serial (omega arith) in
            let b : leb x.serial (c' x.process) ≡ true = le-leb x.serial (c' x.process) (omega (arith, ap c' z)) in
            let t : same x y ≡ true = ap (λ (q : OpId). same q y) g ∙ same_refl y in
            rw (a, b, t) (or_one (leb x.serial (c x.process)))

    old_unopened : (x : OpId) → is_opened x h' ≡ false → is_opened x h ≡ false
    unfolding is_opening
    old_unopened x e = (or-false (is_opened x h) (same x y) (sym (is_opened-snoc x h (opens y o)) ∙ e)).0

    new_unfinished : is_finished y h ≡ false
    new_unfinished = on (is_finished y h) refl
      where
        on : (b : Bool) → is_finished y h ≡ b → b ≡ false
        on true z = let f : Found s m.memory y = ag.finished y z in absurd (omega (arith, f.last, unreached))
        on false z = refl

    new_does : does y h' ≡ o
    unfolding does
    new_does = does_append y h (e ∷ []) ∙ rw (new_unopened, same_refl y)

    doing' : (j : ℕ) → j < processes s → (o' : Operation) (n : Step) → (process_of (begin m k o) j).status ≡ Busy o' n → Doing h' (record { process = j; serial = c' j }) o'
    unfolding operation
    doing' j jp o' n b = on (ℕ_discrete j k)
      where
        on : Dec (j ≡ k) → Doing h' (record { process = j; serial = c' j }) o'
        on (yes z) =
            let w : Busy o A ≡ Busy o' n = sym (ap (λ (p : Process). p.status) (begun_here s m ag.invariant k kp o rests few)) ∙ ap (λ (i : ℕ). (process_of (begin m k o) i).status) (sym z) ∙ b in
            let v : o ≡ o' = cc in
            let g : ◌≡◌ {A = OpId} (record { process = j; serial = c' j }) y = λ i. record { process = z i; serial = (ap c' z ∙ here) i } in
            subst (λ (x : OpId). Doing h' x o') (sym g) (record { some = omega arith; what = new_does ∙ v; unfinished = finished_kept y ∙ new_unfinished })
        on (no z) =
            let d : Doing h (record { process = j; serial = c j }) o' =
            ag.doing j jp o' n (sym (ap (λ (p : Process). p.status) (begun_other s m ag.invariant k kp o rests few j z)) ∙ b) in
            subst (λ (i : ℕ). Doing h' (record { process = j; serial = i }) o') (sym (there j z))
            (record {
              some = d.some;
              what = does_kept (record { process = j; serial = c j }) h (e ∷ []) (opened_yes ag tall (record { process = j; serial = c j }) d.some (le_refl _)) ∙ d.what;
              unfinished = finished_kept (record { process = j; serial = c j }) ∙ d.unfinished;
            })

    -- an operation that was running goes on, and the new one runs
    unfinished' : (x : OpId) → is_opened x h' ≡ true → is_finished x h' ≡ false → Running s (begin m k o) c' x
    unfolding is_opening is_idle
    unfinished' x a b =
        or_cases (is_opened x h) (same x y) (sym (is_opened-snoc x h e) ∙ a) (λ p. old (ag.unfinished x p (sym (finished_kept x) ∙ b)))
        (λ p.
        subst (Running s (begin m k o) c') (sym (same_eq x y p))
        (record { process = kp; last = sym here; busy = ap (λ (q : Process). is_idle q.status) (begun_here s m ag.invariant k kp o rests few) }))
      where
        old : Running s m c x → Running s (begin m k o) c' x
        old r =
            let kept = begun_other s m ag.invariant k kp o rests few x.process other in
            record { process = r.process; last = r.last ∙ sym (there x.process other); busy = ap (λ (q : Process). is_idle q.status) kept ∙ r.busy }
          where
            other : x.process ≢ k
            other z = true≢false (sym (ap (λ (j : ℕ). is_idle (process_of m j).status) z ∙ ap is_idle rests) ∙ r.busy)

    leaves' : LeavesAre s m.memory h'
    unfolding operation
    leaves' j jp i f =
        subst (λ (q : Operation). IsBlockOf q (block s m.memory (leaf_of s j) i) (block s m.memory (leaf_of s j) (suc i)))
        (sym (does_kept (record { process = j; serial = suc i }) h (e ∷ []) (opened_yes ag tall (record { process = j; serial = suc i }) (omega arith) (leaf_begun ag tall j jp (suc i) f))))
        (ag.leaves j jp i f)

    before' : (x z : OpId) → finished_before x z h' ≡ true → Before s m.memory x z
    unfolding is_opening
    before' x z p =
        or_cases (finished_before x z h) (is_finished x h && same z y) (sym (finished_before-snoc x z h e) ∙ p) (λ a. ag.before x z a)
        (λ a.
        let q = and-true (is_finished x h) (same z y) a in
        let f : Found s m.memory x = ag.finished x q.0 in
        subst (Before s m.memory x) (sym (same_eq z y q.1))
        (record {
          cut = last_root s m.memory.table;
          within = le_refl _;
          first_process = f.process;
          second_process = kp;
          first = f.last;
          second = omega (arith, unreached);
        }))

    answers' : log ≡ map (queue_record s m.memory.table h') (finishing h')
    unfolding finishing
    answers' =
        ag.answers
        ∙ sym (records_kept ag tall m.memory ag.invariant.sound (later_refl s m.memory) (e ∷ []) (λ x z. counts_kept x))
        ∙ ap (map (queue_record s m.memory.table h')) (sym (finishing_append h (e ∷ []) ∙ append-nil (finishing h)))

    counts' : (j : ℕ) → j < processes s → (process_of (begin m k o) j).begun ≡ c' j
    counts' j jp = on (ℕ_discrete j k)
      where
        on : Dec (j ≡ k) → (process_of (begin m k o) j).begun ≡ c' j
        on (yes z) = rw (z, here) (ap (λ (p : Process). p.begun) (begun_here s m ag.invariant k kp o rests few) ∙ omega (arith, ag.counts k kp))
        on (no z) = rw (there j z) (ap (λ (p : Process). p.begun) (begun_other s m ag.invariant k kp o rests few j z) ∙ ag.counts j jp)

    current' : (j : ℕ) → j < processes s → counts_in (process_of (begin m k o) j) ≡ counts_of (record { process = j; serial = c' j }) h'
    unfolding operation
    current' j jp = on (ℕ_discrete j k)
      where
        on : Dec (j ≡ k) → counts_in (process_of (begin m k o) j) ≡ counts_of (record { process = j; serial = c' j }) h'
        on (yes z) =
            rw (z, here)
            (ap counts_in (begun_here s m ag.invariant k kp o rests few) ∙ sym (counts_kept y ∙ ag.unstarted y new_unopened))
        on (no z) =
            rw (there j z)
            (ap counts_in (begun_other s m ag.invariant k kp o rests few j z) ∙ ag.current j jp ∙ sym (counts_kept (record { process = j; serial = c j })))

    pub begin_agrees : Agrees s (begin m k o) c' (h ++ (opens (operation k (c k + 1)) o ∷ [])) log
    unfolding operation begin with_process
    begin_agrees =
        record {
          invariant = begin_keeps s m ag.invariant k kp o rests few;
          counts = counts';
          opened = opened';
          unstarted = λ x e. counts_kept x ∙ ag.unstarted x (old_unopened x e);
          unfinished = unfinished';
          few = λ x. omega (arith, ap (λ (z : OwnCounts). z.steps) (counts_kept x), ag.few x);
          current = current';
          doing = doing';
          leaves = leaves';
          finished = λ x z. ag.finished x (sym (finished_kept x) ∙ z);
          before = before';
          answers = answers';
        }
