-- A step keeps the agreement of history and machine.
use Rattle.std.specs.Prelude.{if◌then◌else◌}
use Prim.Native.Nat.{ℕ, suc, ◌+◌, ◌-◌, ◌≤◌, ◌<◌}
use native.Mathlib.Omega.{arith}
use native.Mathlib.Decide.{ℕ_discrete}
use native.Mathlib.Nat.{le_refl}
use mathlib.Core.Path.{◌≡◌, refl, ap, sym, ◌∙◌, subst}
use mathlib.Core.Logic.{◌≢◌, inl, inr}
use mathlib.Core.Bool.{Bool, true, false, ◌&&◌, and-false, and-true as and_one}
use mathlib.Core.List.{List, [], ◌∷◌, ◌++◌, map}
use Rattle.base.proofs.Cases.{and-true, or-false, contradiction}
use Rattle.record.specs.declared.AnswerRecord.{AnswerRecord}
use Rattle.tree.specs.declared.Block.{Block}
use Rattle.tree.specs.Shape.{Shape, processes, root, leaf_of}
use Rattle.tree.specs.Memory.{Memory, head_of, block}
use Rattle.tree.specs.Order.{OpId, last_root}
use Rattle.tree.specs.Standing.{same}
use Rattle.tree.specs.Clauses.Invariant.{Node, NodeSound}
use Rattle.tree.proofs.Nodes.{leaf_node}
use Rattle.tree.proofs.Sound.{below_head, before_written}
use Rattle.tree.proofs.Growth.{Same}
use Rattle.tree.proofs.Later.{Later, later_refl, later_grows}
use Rattle.tree.proofs.LastRoot.{last_written, head_last}
use Rattle.tree.proofs.Names.{same_refl, same_eq, other_process}
use Rattle.tree.proofs.Reached.{reached_rises}
use Rattle.tree.proofs.Once.{Found}
use Rattle.tree.proofs.OrderGrows.{last_grows, reached_stays, reached_grows}
use Rattle.steps.specs.declared.Operation.{Operation}
use Rattle.steps.specs.declared.Operation.TheVariants.{Put, Take}
use Rattle.steps.specs.declared.Step.{Step}
use Rattle.steps.specs.declared.Step.TheVariants.{A}
use Rattle.steps.specs.declared.Status.TheVariants.{Busy}
use Rattle.steps.specs.declared.Process.{Process}
use Rattle.steps.specs.Rules.{plus_operation, step}
use Rattle.steps.specs.Machine.{Machine, process_of, is_idle, is_q, stepped, step_of}
use Rattle.steps.proofs.Stages.{answering, stage, stage_of}
use Rattle.steps.proofs.Progress.{LeafOpen, OwnLeaf, Rooted, Carried}
use Rattle.steps.proofs.Others.{LeafWrote, Effect}
use Rattle.steps.proofs.Costs.{rest}
use Rattle.steps.proofs.Inside.{is_q_lem, q_helps_none, next_busy, still_busy}
use Rattle.steps.proofs.Invariant.{Invariant, holding}
use Rattle.steps.proofs.Keeps.{step_keeps, step_effect, stepped_memory, stepped_here, stepped_other}
use Rattle.calls.specs.History.{Event, operation, is_opened, is_finished, own_steps, does}
use Rattle.calls.specs.Demand3.{queue_record, finishing}
use Rattle.calls.proofs.Leaves.{IsBlockOf, LeavesAre}
use Rattle.calls.proofs.OwnCounts.{OwnCounts, counts_of, counts_in}
use Rattle.calls.proofs.Agrees.{Doing, Before, Running, Agrees}
use Rattle.calls.proofs.Events.{does_kept, or_cases}
use Rattle.calls.proofs.RecordsStay.{leaf_begun, opened_yes}
use Rattle.calls.proofs.StepEvents.{step_event, opened_kept, counts_own, counts_other, finished_more, before_kept}

-- a leaf's block stays an operation's as it stays the same, and one that was just added is the operation's
block_same : (o : Operation) (b c b' c' : Block) → Same b' b → Same c' c → IsBlockOf o b c → IsBlockOf o b' c'
block_same (Put x) b c b' c' p q f = (omega (arith, f.0, p.puts, q.puts), omega (arith, f.1, p.takes, q.takes), q.left ∙ f.2)
block_same Take b c b' c' p q f = (omega (arith, f.0, p.puts, q.puts), omega (arith, f.1, p.takes, q.takes))

block_added : (number : ℕ) (o : Operation) (b b' : Block) → Same b' b → IsBlockOf o b' (plus_operation number o b)
unfolding plus_operation
block_added number (Put x) b b' p = (omega (arith, p.puts), sym p.takes, refl)
block_added number Take b b' p = (sym p.puts, omega (arith, p.takes))

-- process k, inside operation o at step n, takes a step, by the record with this number, where history and machine
-- agree
pub record StepTaken (s : Shape) (number : ℕ) (m : Machine) (c : ℕ → ℕ) (h : List Event) (log : List AnswerRecord) (k : ℕ) (o : Operation) (n : Step) : Type 0 where
  pub agrees : Agrees s m c h log
  pub tall : 1 ≤ s.height
  pub low : k < processes s
  pub busy : (process_of m k).status ≡ Busy o n

module _ {s : Shape} {number : ℕ} {m : Machine} {c : ℕ → ℕ} {h : List Event} {log : List AnswerRecord} {k : ℕ} {o : Operation} {n : Step} (taken : StepTaken s number m c h log k o n) where
  open taken use {agrees as ag, tall, low as kp, busy}

  abbrev y : OpId
  y = record { process = k; serial = c k }

  -- whether the step is a help
  abbrev helped : Bool
  helped = (step s number k o m.memory n).helped

  abbrev h' : List Event
  h' = h ++ (step_event (is_q n) y helped ∷ [])

  abbrev inv : Invariant s m
  inv = ag.invariant

  pub inv' : Invariant s (step_of s number m k)
  inv' = step_keeps s tall number m inv k kp o n busy

  abbrev mem' : Memory
  mem' = (step_of s number m k).memory

  eff : Effect s number k o m.memory (holding m k) mem' (stage_of (step s number k o m.memory n).next)
  eff =
      subst (λ (x : Memory). Effect s number k o m.memory (holding m k) x (stage_of (step s number k o m.memory n).next))
      (sym (stepped_memory s tall number m inv k kp o n busy)) (step_effect s tall number m inv k kp o n busy)

  pub later : Later s m.memory mem'
  later = later_grows (later_refl s m.memory) eff.grows

  abbrev next : Process
  next = stepped (process_of m k) (step s number k o m.memory n)

  here : process_of (step_of s number m k) k ≡ next
  here = stepped_here s tall number m inv k kp o n busy

  there : (j : ℕ) → j ≢ k → process_of (step_of s number m k) j ≡ process_of m j
  there = stepped_other s tall number m inv k kp o n busy

  pub mine : Doing h y o
  unfolding operation
  mine = ag.doing k kp o n busy

  at : holding m k ≡ stage n
  at = ap stage_of busy

  -- ---- counts
  pub not_mine : (x : OpId) → same x y ≡ false → counts_of x h' ≡ counts_of x h
  not_mine = counts_other (is_q n) y helped h (q_helps_none s number k o m.memory n)

  pub is_mine : counts_in next ≡ counts_of y h'
  unfolding operation
  is_mine =
      ap (λ (z : OwnCounts). record { steps = z.steps + 1; helps = if helped then z.helps + 1 else z.helps }) (ag.current k kp)
      ∙ sym (counts_own (is_q n) y helped h (q_helps_none s number k o m.memory n))

  few' : (x : OpId) → own_steps x h' ≤ rest s A
  few' x = on (same x y) refl
    where
      on : (b : Bool) → same x y ≡ b → own_steps x h' ≤ rest s A
      on true e = rw (same_eq x y e) (omega (arith, ap (λ (z : OwnCounts). z.steps) is_mine, ap (λ (p : Process). p.steps) here, (inv'.process k kp).bounded))
      on false e = omega (arith, ap (λ (z : OwnCounts). z.steps) (not_mine x e), ag.few x)

  mine_opened : is_opened y h ≡ true
  mine_opened = opened_yes ag tall y mine.some (le_refl _)

  unstarted' : (x : OpId) → is_opened x h' ≡ false → counts_of x h' ≡ record { steps = 0; helps = 0 }
  unstarted' x l = on (same x y) refl
    where
      on : (b : Bool) → same x y ≡ b → counts_of x h' ≡ record { steps = 0; helps = 0 }
      on true e = contradiction (is_opened y h) mine_opened (ap (λ (z : OpId). is_opened z h) (sym (same_eq x y e)) ∙ sym (opened_kept (is_q n) y helped h x) ∙ l)
      on false e = not_mine x e ∙ ag.unstarted x (sym (opened_kept (is_q n) y helped h x) ∙ l)

  -- an operation that is not finished by this step goes on
  unfinished' : (x : OpId) → is_opened x h' ≡ true → is_finished x h' ≡ false → Running s (step_of s number m k) c x
  unfinished' x a b =
      let f = or-false (is_finished x h) (is_q n && same x y) (sym (finished_more (is_q n) y helped h x) ∙ b) in
      old (ag.unfinished x (sym (opened_kept (is_q n) y helped h x) ∙ a) f.0) f.1
    where
      old : Running s m c x → is_q n && same x y ≡ false → Running s (step_of s number m k) c x
      old r g = record { process = r.process; last = r.last; busy = on (ℕ_discrete x.process k) }
        where
          on : Dec (x.process ≡ k) → is_idle (process_of (step_of s number m k) x.process).status ≡ false
          on (yes z) =
              let w : x ≡ y = λ i. record { process = z i; serial = (r.last ∙ ap c z) i } in
              let q : is_q n ≡ false = sym (rw (ap (λ (u : OpId). same u y) w ∙ same_refl y) (and_one (is_q n))) ∙ g in
              ap (λ (j : ℕ). is_idle (process_of (step_of s number m k) j).status) z ∙ ap (λ (p : Process). is_idle p.status) here ∙ still_busy s number k o m.memory n q
          on (no z) = ap (λ (p : Process). is_idle p.status) (there x.process z) ∙ r.busy

  current' : (j : ℕ) → j < processes s → counts_in (process_of (step_of s number m k) j) ≡ counts_of (record { process = j; serial = c j }) h'
  unfolding operation
  current' j jp = on (ℕ_discrete j k)
    where
      on : Dec (j ≡ k) → counts_in (process_of (step_of s number m k) j) ≡ counts_of (record { process = j; serial = c j }) h'
      on (yes z) = rw z (ap counts_in here ∙ is_mine)
      on (no z) =
          ap counts_in (there j z) ∙ ag.current j jp
          ∙ sym (not_mine (record { process = j; serial = c j }) (other_process (record { process = j; serial = c j }) y z))

  counts' : (j : ℕ) → j < processes s → (process_of (step_of s number m k) j).begun ≡ c j
  counts' j jp = on (ℕ_discrete j k)
    where
      on : Dec (j ≡ k) → (process_of (step_of s number m k) j).begun ≡ c j
      on (yes z) = rw z (ap (λ (p : Process). p.begun) here ∙ ag.counts k kp)
      on (no z) = ap (λ (p : Process). p.begun) (there j z) ∙ ag.counts j jp

  -- ---- operations
  pub does_same : (x : OpId) → 1 ≤ x.serial → x.serial ≤ c x.process → does x h' ≡ does x h
  does_same x a b = does_kept x h (step_event (is_q n) y helped ∷ []) (opened_yes ag tall x a b)

  doing' : (j : ℕ) → j < processes s → (o' : Operation) (n' : Step) → (process_of (step_of s number m k) j).status ≡ Busy o' n' → Doing h' (record { process = j; serial = c j }) o'
  unfolding operation
  doing' j jp o' n' b = on (ℕ_discrete j k)
    where
      on : Dec (j ≡ k) → Doing h' (record { process = j; serial = c j }) o'
      on (yes z) =
          let w : (step s number k o m.memory n).next ≡ Busy o' n' = sym (ap (λ (p : Process). p.status) here) ∙ ap (λ (i : ℕ). (process_of (step_of s number m k) i).status) (sym z) ∙ b in
          let v = next_busy s number k o m.memory n o' n' w in
          subst (λ (i : ℕ). Doing h' (record { process = i; serial = c i }) o') (sym z)
          (record {
            some = mine.some;
            what = does_same y mine.some (le_refl _) ∙ mine.what ∙ v.1;
            unfinished = finished_more (is_q n) y helped h y ∙ rw (mine.unfinished, v.0);
          })
      on (no z) =
          let x : OpId = record { process = j; serial = c j } in
          let d : Doing h (record { process = j; serial = c j }) o' = ag.doing j jp o' n' (sym (ap (λ (p : Process). p.status) (there j z)) ∙ b) in
          record {
            some = d.some;
            what = does_same (record { process = j; serial = c j }) d.some (le_refl _) ∙ d.what;
            unfinished =
                finished_more (is_q n) y helped h (record { process = j; serial = c j })
                ∙ rw (d.unfinished, other_process (record { process = j; serial = c j }) y z) (and-false (is_q n));
          }

  -- ---- leaves
  pub leaves' : LeavesAre s mem' h'
  unfolding operation
  leaves' j jp i f = on (eff.leaves j i f)
    where
      nj : Node s (leaf_of s j)
      nj = leaf_node s j jp

      old : NodeSound s m.memory (leaf_of s j)
      old = inv.sound.node (leaf_of s j) nj

      on : LeafWrote s number k o m.memory (holding m k) mem' j i
          → IsBlockOf (does (record { process = j; serial = suc i }) h') (block s mem' (leaf_of s j) i) (block s mem' (leaf_of s j) (suc i))
      on (inl g) =
          subst (λ (q : Operation). IsBlockOf q (block s mem' (leaf_of s j) i) (block s mem' (leaf_of s j) (suc i)))
          (sym (does_same (record { process = j; serial = suc i }) (omega arith) (leaf_begun ag tall j jp (suc i) g)))
          (block_same (does (record { process = j; serial = suc i }) h) _ _ _ _ (eff.grows.stays (leaf_of s j) i nj (before_written old i g)) (eff.grows.stays (leaf_of s j) (suc i) nj (inr g))
          (ag.leaves j jp i g))
      on (inr g) =
          let lo : LeafOpen s m.memory k (process_of m k).begun = subst (OwnLeaf s m.memory k (process_of m k).begun) g.1 (inv.process k kp).leaf in
          let e : suc i ≡ c k = g.2 ∙ lo.head ∙ ag.counts k kp in
          let x : ◌≡◌ {A = OpId} (record { process = j; serial = suc i }) y = λ z. record { process = g.0 z; serial = e z } in
          let w : does (record { process = j; serial = suc i }) h' ≡ o = ap (λ (z : OpId). does z h') x ∙ does_same y mine.some (le_refl _) ∙ mine.what in
          let v : i < head_of m.memory (leaf_of s j) = rw g.0 (omega (arith, g.2)) in
          let p : Same (block s mem' (leaf_of s j) i) (block s m.memory (leaf_of s k) i) =
          subst (λ (r : ℕ). Same (block s mem' (leaf_of s j) i) (block s m.memory (leaf_of s r) i)) g.0 (eff.grows.stays (leaf_of s j) i nj (below_head old i v)) in
          subst (λ (q : Operation). IsBlockOf q (block s mem' (leaf_of s j) i) (block s mem' (leaf_of s j) (suc i))) (sym w)
          (subst (IsBlockOf o (block s mem' (leaf_of s j) i)) (sym g.3) (block_added number o (block s m.memory (leaf_of s k) i) (block s mem' (leaf_of s j) i) p))

  -- ---- what finished, and before what
  found_grows : (x : OpId) → Found s m.memory x → Found s mem' x
  found_grows x f =
      record { process = f.process; first = f.first; last = omega (arith, f.last, reached_grows s m.memory mem' inv.sound inv'.sound later x.process f.process) }

  -- at Q the operation is below the root's head, so it stands in the root
  pub rooted : is_q n ≡ true → Found s m.memory y
  unfolding root
  rooted e =
      let w : holding m k ≡ answering = at ∙ ap stage (is_q_lem n e) in
      let r : Rooted s m.memory k (process_of m k).begun = subst (Carried s m.memory (holding m) k (process_of m k).begun) w (inv.process k kp).carried in
      record {
        process = kp;
        first = mine.some;
        last =
            omega (
              arith,
              r,
              ag.counts k kp,
              reached_rises s m.memory inv.sound k kp (head_of m.memory root - 1) (last_root s m.memory.table)
                  (omega (arith, head_last s m.memory inv.sound)) (last_written s m.memory inv.sound),
            );
      }

  pub finished' : (x : OpId) → is_finished x h' ≡ true → Found s mem' x
  finished' x e =
      or_cases (is_finished x h) (is_q n && same x y) (sym (finished_more (is_q n) y helped h x) ∙ e) (λ a. found_grows x (ag.finished x a))
      (λ a.
      let q = and-true (is_q n) (same x y) a in
      found_grows x (subst (Found s m.memory) (sym (same_eq x y q.1)) (rooted q.0)))

  before' : (x z : OpId) → Before s m.memory x z → Before s mem' x z
  before' x z b =
      record {
        cut = b.cut;
        within = omega (arith, b.within, last_grows s m.memory mem' inv.sound inv'.sound later);
        first_process = b.first_process;
        second_process = b.second_process;
        first = omega (arith, b.first, reached_stays s m.memory mem' inv.sound inv'.sound later x.process b.first_process b.cut b.within);
        second = omega (arith, b.second, reached_stays s m.memory mem' inv.sound inv'.sound later z.process b.second_process b.cut b.within);
      }

  -- all but the answers
  pub step_agrees : (log' : List AnswerRecord) → log' ≡ map (queue_record s mem'.table h') (finishing h')
      → Agrees s (step_of s number m k) c h' log'
  unfolding operation
  step_agrees log' answers =
      record {
        invariant = inv';
        counts = counts';
        opened = λ x. opened_kept (is_q n) y helped h x ∙ ag.opened x;
        unstarted = unstarted';
        unfinished = unfinished';
        few = few';
        current = current';
        doing = doing';
        leaves = leaves';
        finished = finished';
        before = λ x z e. before' x z (ag.before x z (sym (before_kept (is_q n) y helped h x z) ∙ e));
        answers = answers;
      }
