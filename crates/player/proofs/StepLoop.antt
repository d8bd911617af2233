-- A step record in the loop of `play`: what each step needs and leaves.
use Rattle.std.specs.Prelude.{Err}
use Prim.Native.Nat.{ℕ, ◌+◌, ◌*◌, ◌%◌, ◌≤◌, ◌<◌}
use native.Mathlib.Nat.{mod-eq_of_lt}
use native.Mathlib.Omega.{arith}
use mathlib.Core.Path.{◌≡◌, refl, ap, sym, ◌∙◌, subst}
use mathlib.Core.Bool.{false}
use mathlib.Core.List.{List, []}
use lib.ListN.{length, take, drop, get_or}
use Rattle.base.specs.Clauses.Some.{Some}
use Rattle.record.specs.declared.AnswerRecord.{AnswerRecord}
use Rattle.encoding.specs.Bytes.{number_of}
use Rattle.record.specs.AnswerRecords.{answer_size}
use Rattle.record.specs.StepRecords.{is_step, step_record, ill_formed}
use Rattle.tree.specs.Shape.{Shape, processes, leaf_of}
use Rattle.tree.specs.Memory.{Memory, memory_of}
use Rattle.steps.specs.declared.Operation.{Operation}
use Rattle.steps.specs.declared.Step.{Step}
use Rattle.steps.specs.declared.Step.TheVariants.{A, V1, V2, V3, R1, R2, R3, R4, R5, C1, C2, C3L, C3R, C3N, C4, Q}
use Rattle.steps.specs.declared.Status.TheVariants.{Idle, Busy}
use Rattle.steps.specs.declared.Process.{Process}
use Rattle.steps.specs.Process.{idle}
use Rattle.steps.specs.Rules.{Stepped, step, go_telling, go}
use Rattle.steps.specs.Clauses.Ready.{Ready}
use Rattle.stepping.specs.Clauses.Next.{operation_in, step_in, Moves, NextByHeads, NextByTable}
use Rattle.steps.specs.Clauses.Operations.{rested}
use Rattle.steps.specs.Machine.{is_idle, is_q, stepped}
use Rattle.calls.specs.declared.Refusal.TheVariants.{StepWhileIdle, AnswersFull}
use Rattle.calls.specs.Answer.{answer_of}
use Rattle.answer_log.specs.Clauses.Leading.{with_answer, count_after}
use Rattle.answer_log.proofs.Counted.{count_after_lem}
use Rattle.answer_log.proofs.Written.{written_after}
use Rattle.answer.proofs.PlaysLaws.{plays_ready}
use Rattle.answer.specs.Clauses.Playing.{machine_of, Plays}
use Rattle.decode.proofs.StepWords.{step_of, step_formed, words_step}
use Rattle.player.proofs.LoopStates.{Call, State, shape_of, list_of, count_of, played_to, memory_at, processes_of, after_move, after_answer, PlaysAs, Gives, EndsWith}
use Rattle.player.proofs.RecordResults.{Moved}
use Rattle.player.proofs.StepResults.{gives_idle, gives_full, gives_answer, gives_step}
use Rattle.player.proofs.LoopInvariant.{LoopInvariant, loop_narrow, loop_spare, loop_plays, loop_fits, loop_record, loop_refused, loop_moves, loop_finishes}

-- record i, which is before the last one, is a step of process `first`: its words are `first` and 0
pub record StepAt (c : Call) (t : State) (i first : ℕ) : Type 0 where
  pub inv : LoopInvariant c t i
  pub more : i < count_of c
  pub word : first ≡ number_of (take 4 (drop (8 * i) c.records))
  pub zero : number_of (take 4 (drop (8 * i + 4) c.records)) ≡ 0
  pub low : first < c.p

module _ {c : Call} {t : State} {i first : ℕ} (w : StepAt c t i first) where
  abbrev s : Shape
  s = shape_of c

  -- its process
  abbrev pub q : Process
  q = get_or t.procs first idle

  pub step_low : first < 8
  step_low = omega (arith, w.low, loop_narrow w.inv)

  pub step_leaf : c.p + first ≡ leaf_of s first
  unfolding leaf_of
  step_leaf = ap (λ (x : ℕ). x + first) (sym w.inv.width)

  step_is : step_of first ≡ get_or (list_of c) i (step_record [])
  step_is =
      let small : number_of (take 4 (drop (8 * i) c.records)) < 256 = omega (arith, w.low, w.word, loop_narrow w.inv) in
      ap step_of w.word ∙ sym (words_step c.records (8 * i) (loop_fits w.inv w.more) small w.zero) ∙ loop_record w.inv w.more

  pub step_plays : PlaysAs c t first q
  step_plays = loop_plays w.inv first w.low

  pub step_playing : Some (λ (ps : List Process). Plays s ps t.heads t.table first q)
  step_playing = record { one = processes_of c t; holds = step_plays }

  -- modulo p, which it is below, the process is itself
  pub step_same : first % c.p ≡ first
  step_same = mod-eq_of_lt w.low

  well : ill_formed (processes s) (step_of first) ≡ false
  well = step_formed (processes s) first (omega (arith, w.inv.width, w.low))

  pub step_idle : q.status ≡ Idle → EndsWith c t (Err StepWhileIdle) i
  unfolding is_step is_idle
  step_idle e = loop_refused w.inv w.more (step_of first) step_is StepWhileIdle (gives_idle c t i (step_of first) q step_plays well refl (ap is_idle e))

  -- where the process is busy: its operation, and its step by any name that it was told
  module _ {o : Operation} {x : Step} (busy : q.status ≡ Busy o x) where
    pub step_named : {y : Step} → x ≡ y → y ≡ step_in q.status
    step_named is = sym (ap step_in busy ∙ is)

    pub step_busy : {o' : Operation} {y : Step} → o' ≡ operation_in q.status → y ≡ step_in q.status → q.status ≡ Busy o' y
    step_busy {o'} named at =
        busy ∙ ap (λ (k : Operation). Busy k x) (sym (named ∙ ap operation_in busy)) ∙ ap (Busy o') (sym (at ∙ ap step_in busy))

    -- any step but Q
    pub step_ready : {y : Step} → step_in q.status ≡ y → is_q y ≡ false → Ready s t.heads t.table (c.p + first) y
    unfolding leaf_of
    step_ready {y} is goes =
        subst (λ (v : ℕ). Ready s t.heads t.table v y) (ap (λ (x : ℕ). x + first) w.inv.width)
        (plays_ready s (processes_of c t) t.heads t.table first q step_plays (operation_in q.status) y (step_busy refl (sym is)) goes)

    -- what the step does by the rules
    abbrev by_rules : Stepped
    by_rules = step s (i + 1) first (operation_in q.status) (memory_at t) (step_in q.status)

    -- what is known where the process is at step y
    abbrev At : Step → Type 0 → Type 0
    At y P = step_in q.status ≡ y → Ready s t.heads t.table (c.p + first) y → P

    -- the process has become r by the rules, and this memory is left
    pub telling_moves : {y : Step} → x ≡ y → is_q y ≡ false → (table heads : List ℕ) (r : Process) → length heads ≡ length t.heads → length table ≡ length t.table
        → At y ((r ≡ stepped q by_rules) × (by_rules.memory ≡ memory_of table heads)) → LoopInvariant c (after_move t first r (memory_of table heads)) (i + 1)
    unfolding is_step
    telling_moves {y} is goes table heads r eh et left =
        let told : step_in q.status ≡ y = ap step_in busy ∙ is in
        let ready = step_ready told goes in
        let e = left told ready in
        let q' : Process = stepped q by_rules in
        let given =
        gives_step c t i (step_of first) q step_plays well refl (operation_in q.status) (step_in q.status) (step_busy refl refl) (ap is_q told ∙ goes)
        in
        subst (λ (z : Process). LoopInvariant c (after_move t first z (memory_of table heads)) (i + 1)) (sym e.0)
        (loop_moves w.inv w.more (step_of first) step_is q' (memory_of table heads) w.low eh et
        (subst (λ (n : Memory). Gives c t i (step_of first) n (Moved q')) e.1 given))

    -- the same of a step that is no help
    pub step_moves : {y : Step} → x ≡ y → is_q y ≡ false → (table heads : List ℕ) (r : Process) → length heads ≡ length t.heads → length table ≡ length t.table
        → At y (Moves q r × (by_rules ≡ go s (i + 1) first (operation_in q.status) (memory_at t) (memory_of table heads) (step_in r.status)))
        → LoopInvariant c (after_move t first r (memory_of table heads)) (i + 1)
    unfolding go_telling go
    step_moves is goes table heads r eh et left =
        telling_moves is goes table heads r eh et
        (λ told ready. let e = left told ready in (e.0 ∙ ap (stepped q) (sym e.1), ap (λ (z : Stepped). z.memory) e.1))

    -- of a step that looks at heads alone, and of one that looks at the table alone
    pub heads_move : {y : Step} → x ≡ y → is_q y ≡ false → (heads : List ℕ) (r : Process) → length heads ≡ length t.heads
        → (step_in q.status ≡ y → NextByHeads t.heads heads q r) → LoopInvariant c (after_move t first r (memory_of t.table heads)) (i + 1)
    heads_move is goes heads r eh next = step_moves is goes t.table heads r eh refl (λ told _. let e = next told in (e.0, e.1 _ _ _ _ _))

    pub table_moves : {y : Step} → x ≡ y → is_q y ≡ false → (table : List ℕ) (r : Process) → length table ≡ length t.table
        → (step_in q.status ≡ y → NextByTable s (i + 1) t.table table q r) → LoopInvariant c (after_move t first r (memory_of table t.heads)) (i + 1)
    table_moves is goes table r et next = step_moves is goes table t.heads r refl et (λ told _. let e = next told in (e.0, e.1 _ _ _))

  -- Q
  module _ {o : Operation} (finish-busy : q.status ≡ Busy o Q) where
    pub finish_full : t.left < 16 → EndsWith c t (Err AnswersFull) i
    unfolding is_step is_q
    finish_full h =
        loop_refused w.inv w.more (step_of first) step_is AnswersFull (gives_full c t i (step_of first) q step_plays well refl o Q finish-busy refl h)

    pub finish_moves : (enough : 16 ≤ t.left) (a : AnswerRecord) (out : List ℕ) (equal : ℕ) → length out ≡ length t.out
        → ((ps : List Process) → Plays s ps t.heads t.table first q → a ≡ answer_of s (machine_of t.table t.heads ps) first o)
        → equal ≡ count_after c.log t.answers t.equal a → out ≡ with_answer t.out t.answers a
        → LoopInvariant c (after_answer t first (rested q) out equal) (i + 1)
    unfolding is_step is_q answer_size
    finish_moves enough a out equal eo told-a told-e told-w =
        let so_far = w.inv.so_far in
        let xs : List AnswerRecord = (played_to c i).answers in
        let room = rw so_far.answered at (loop_spare w.inv enough w.inv.begun.bounded) in
        loop_finishes w.inv w.more (step_of first) step_is o a out equal w.low eo
        (gives_answer c t i (step_of first) q step_plays well refl o Q finish-busy refl enough)
        (told-a (processes_of c t) step_plays) enough
        (told-e ∙ rw (so_far.answered, so_far.same) (count_after_lem xs a c.log))
        (told-w ∙ rw (so_far.answered, so_far.bytes) (written_after c.out xs a room))
