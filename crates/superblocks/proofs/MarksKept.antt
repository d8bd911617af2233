-- The invariant of supers holds at the start, and every begin and every step keeps it.
use Prim.Native.Nat.{ℕ, ◌≤◌, ◌<◌}
use native.Mathlib.Omega.{arith}
use mathlib.Core.Path.{◌≡◌, refl, ap, sym, ◌∙◌, subst}
use mathlib.Core.Logic.{inl, inr}
use Rattle.tree.specs.declared.Block.{Block}
use Rattle.tree.specs.Shape.{Shape, processes, parent_of}
use Rattle.tree.specs.Memory.{Memory}
use Rattle.tree.specs.Sides.{child_of}
use Rattle.tree.specs.Clauses.Invariant.{Node, zeros}
use Rattle.tree.proofs.Nodes.{side_of, child_of_parent, parent_inner}
use Rattle.tree.proofs.Cleared.{cleared, cleared_head, cleared_block}
use Rattle.steps.specs.declared.Operation.{Operation}
use Rattle.steps.specs.declared.Step.{Step}
use Rattle.steps.specs.declared.Step.TheVariants.{A}
use Rattle.steps.specs.declared.Status.{Status}
use Rattle.steps.specs.declared.Status.TheVariants.{Idle, Busy}
use Rattle.steps.specs.declared.Process.{Process}
use Rattle.steps.specs.Process.{idle}
use Rattle.steps.specs.Rules.{Stepped, step}
use Rattle.steps.specs.Machine.{Machine, start, process_of, with_process, begin, step_of}
use Rattle.steps.proofs.Stages.{stage_of}
use Rattle.steps.proofs.Others.{Effect}
use Rattle.steps.proofs.Effects.{still}
use Rattle.steps.proofs.Invariant.{Invariant, holding}
use Rattle.steps.proofs.Keeps.{start_process, begun_here, begun_other, begin_keeps, step_effect, step_keeps, stepped_memory, stepped_here, stepped_other, own, carried}
use Rattle.superblocks.proofs.Marks.{super, Seen, Asks, Raises, Mark, MarksHold, statuses, SuperInvariant}
use Rattle.superblocks.proofs.Traces.{Traces, quiet, traces}
use Rattle.superblocks.proofs.Sights.{seen_turn}
use Rattle.superblocks.proofs.MarksStay.{marks_keep}
use Rattle.superblocks.proofs.MachineFacts.{MachineFacts, machine_facts}

-- ---- the start
module _ (s : Shape) where
  idle_status : idle.status ≡ Idle
  unfolding idle
  idle_status = refl

  start_status : (k : ℕ) → k < processes s → statuses (start s) k ≡ Idle
  start_status k kp = ap (λ (p : Process). p.status) (start_process s k kp) ∙ idle_status

  start_super : (v i : ℕ) → super s (cleared s) v i ≡ 0
  unfolding zeros
  start_super v i = ap (λ (b : Block). b.superblock) (cleared_block s v i)

  idle_asks : (v i z : ℕ) → Asks v i z Idle → ⊥
  idle_asks v i z = elim [ ]

  idle_raises : (v i : ℕ) → Raises v i Idle → ⊥
  idle_raises v i = elim [ ]

  no_mark : (v i z : ℕ) → Mark s (cleared s) (statuses (start s)) v i z → ⊥
  no_mark v i z (inl p) = omega (arith, p.0, p.1, start_super v i)
  no_mark v i z (inr p) = idle_asks v i z (subst (Asks v i z) (start_status p.1.0 p.1.1) p.1.2)

  pub start_supers : SuperInvariant s (start s)
  unfolding start
  start_supers =
      record {
        set = λ v i nv v1 i1 l. absurd (omega (arith, cleared_head s v));
        raised = λ k kp v i l q. absurd (idle_raises v i (subst (Raises v i) (start_status k kp) q));
        near = λ d u iu i z p. absurd (no_mark (child_of d u) i z p);
      }

-- ---- a begin
module _ (s : Shape) (m : Machine) (inv : Invariant s m) (k : ℕ) (kp : k < processes s) (o : Operation) (rests : (process_of m k).status ≡ Idle)
    (few : (process_of m k).begun < s.most) (old : SuperInvariant s m)
  where
    begun_status : statuses (begin m k o) k ≡ Busy o A
    begun_status = ap (λ (p : Process). p.status) (begun_here s m inv k kp o rests few)

    pub begin_supers : SuperInvariant s (begin m k o)
    unfolding begin with_process
    begin_supers =
        marks_keep s m.memory m.memory (statuses m) (statuses (begin m k o)) (machine_facts s m inv) (machine_facts s (begin m k o) (begin_keeps s m inv k kp o rests few)) k kp o
        (subst (λ (y : Status). Effect s 0 k o m.memory (holding m k) m.memory (stage_of y)) (sym begun_status) (still s 0 k o m.memory (λ d u h e q. absurd q)))
        (λ r ne. ap (λ (p : Process). p.status) (begun_other s m inv k kp o rests few r ne))
        (subst (λ (y : Status). Traces s m.memory (statuses m k) m.memory y) (sym begun_status) (quiet s m.memory (statuses m k) o A (λ v i z. elim [ ], λ v i l. elim [ ])))
        old
        (λ d u i z here low q. subst (Seen m.memory d u i z) (sym begun_status) (λ e l. tt))

-- ---- a step
module _ (s : Shape) (tall : 1 ≤ s.height) (number : ℕ) (m : Machine) (inv : Invariant s m) (k : ℕ) (kp : k < processes s) (o : Operation) (n : Step)
    (busy : (process_of m k).status ≡ Busy o n) (old : SuperInvariant s m)
  where
    abbrev r : Stepped
    r = step s number k o m.memory n

    abbrev at' : ℕ → Status
    at' = statuses (step_of s number m k)

    abbrev b : ℕ
    b = (process_of m k).begun

    next : at' k ≡ r.next
    next = ap (λ (p : Process). p.status) (stepped_here s tall number m inv k kp o n busy)

    -- what V2 is to set is a mark, so not 0
    asked : (v i z : ℕ) → Asks v i z (Busy o n) → 1 < v → super s m.memory v i ≡ 0 → 1 ≤ z
    asked v i z q l e =
        let q' : Asks v i z (statuses m k) = subst (Asks v i z) (sym busy) q in
        let nv : Node s v = ((machine_facts s m inv).asked k kp v i z q').0 in
        let mark : Mark s m.memory (statuses m) (child_of (side_of v) (parent_of v)) i z =
        subst (λ (y : ℕ). Mark s m.memory (statuses m) y i z) (sym (child_of_parent v)) (inr (e, (k, kp, q'))) in
        (old.near (side_of v) (parent_of v) (parent_inner s v nv (λ f. omega arith)) i z mark).first

    raised : (v i : ℕ) → 1 < v → Raises v i (Busy o n) → 1 ≤ super s m.memory v i
    raised v i l q = old.raised k kp v i l (subst (Raises v i) (sym busy) q)

    stepped : MarksHold s r.memory at'
    stepped =
        marks_keep s m.memory r.memory (statuses m) at' (machine_facts s m inv)
        (subst (λ (x : Memory). MachineFacts s x at') (stepped_memory s tall number m inv k kp o n busy) (machine_facts s (step_of s number m k) (step_keeps s tall number m inv k kp o n busy))) k kp o
        (subst (λ (y : Status). Effect s number k o m.memory (holding m k) r.memory (stage_of y)) (sym next) (step_effect s tall number m inv k kp o n busy))
        (λ j ne. ap (λ (p : Process). p.status) (stepped_other s tall number m inv k kp o n busy j ne))
        (subst (λ (x : Status). Traces s m.memory x r.memory (at' k)) (sym busy)
        (subst (Traces s m.memory (Busy o n) r.memory) (sym next)
        (traces s m.memory inv.sized inv.sound (holding m) number k kp o b n (own s tall number m inv k kp o n busy) (carried s tall number m inv k kp o n busy) asked raised)))
        old
        (λ d u i z here low q.
        subst (Seen r.memory d u i z) (sym next)
        (seen_turn s m.memory inv.sound o u i z inv.sized (holding m) number k b n d here low (carried s tall number m inv k kp o n busy) (subst (Seen m.memory d u i z) busy q)))

    pub step_supers : SuperInvariant s (step_of s number m k)
    step_supers = subst (λ (x : Memory). MarksHold s x at') (sym (stepped_memory s tall number m inv k kp o n busy)) stepped
