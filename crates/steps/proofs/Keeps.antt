-- The start meets the machine's invariant, and every begin and every step keeps it.
use Prim.Native.Nat.{ℕ, ◌+◌, ◌≤◌, ◌<◌}
use native.Mathlib.Omega.{arith}
use native.Mathlib.Decide.{ℕ_discrete}
use mathlib.Core.Path.{◌≡◌, ap, sym, ◌∙◌, subst}
use mathlib.Core.Logic.{◌≢◌}
use lib.ListN.{length, length-set, length-replicate, get_or-replicate}
use lib.Seq.{get_or-set_same, get_or-set_other}
use Rattle.base.proofs.Cases.{both}
use Rattle.tree.specs.Shape.{Shape, processes, leaf_of}
use Rattle.tree.specs.Memory.{Memory}
use Rattle.tree.specs.Clauses.Invariant.{Sized}
use Rattle.tree.proofs.Growth.{sound_grows}
use Rattle.tree.proofs.Cleared.{cleared, cleared_head, cleared_count, cleared_sized, cleared_sound}
use Rattle.steps.specs.declared.Operation.{Operation}
use Rattle.steps.specs.declared.Step.{Step}
use Rattle.steps.specs.declared.Step.TheVariants.{A}
use Rattle.steps.specs.declared.Status.{Status}
use Rattle.steps.specs.declared.Status.TheVariants.{Idle, Busy}
use Rattle.steps.specs.declared.Process.{Process}
use Rattle.steps.specs.Process.{idle}
use Rattle.steps.specs.Rules.{Stepped, step}
use Rattle.steps.specs.Machine.{Machine, start, process_of, with_process, begin, stepped, step_from, step_of}
use Rattle.steps.specs.Clauses.Operations.{entered}
use Rattle.steps.proofs.Stages.{Stage, stage, stage_of}
use Rattle.steps.proofs.Turns.{turn}
use Rattle.steps.proofs.Progress.{LeafDone, LeafOpen, OwnLeaf, Carried}
use Rattle.steps.proofs.Others.{Effect, carried_stable}
use Rattle.steps.proofs.Effects.{still, effect}
use Rattle.steps.proofs.Leaf.{own_stable, own_turn}
use Rattle.steps.proofs.CarriedTurn.{carried_turn}
use Rattle.steps.proofs.Costs.{rest, rest_of, rest_step}
use Rattle.steps.proofs.Invariant.{ProcessSound, holding, Invariant, registers, step_nodes, turn_sized}

-- ---- a machine in which process k has become p
module _ (s : Shape) (m : Machine) (counted : length m.processes ≡ processes s) (k : ℕ) (kp : k < processes s) (p : Process) (n : Memory) where
  process_here : process_of (with_process m k p n) k ≡ p
  unfolding process_of with_process
  process_here = get_or-set_same m.processes k p idle (omega arith)

  process_other : (j : ℕ) → j ≢ k → process_of (with_process m k p n) j ≡ process_of m j
  unfolding process_of with_process
  process_other j ne = get_or-set_other m.processes k j p idle ne

-- ---- a turn of process k, after which it is p: what is known of every process stays known
module _ (s : Shape) {number : ℕ} (m : Machine) (inv : Invariant s m) (k : ℕ) (kp : k < processes s) (p : Process) (n : Memory) (o : Operation)
    (eff : Effect s number k o m.memory (holding m k) n (stage_of p.status))
  where
    abbrev after : Machine
    after = with_process m k p n

    here : holding after k ≡ stage_of p.status
    here = ap (λ (q : Process). stage_of q.status) (process_here s m inv.counted k kp p n)

    others : (r : ℕ) → r ≢ k → holding after r ≡ holding m r
    others r ne = ap (λ (q : Process). stage_of q.status) (process_other s m inv.counted k kp p n r ne)

    eff' : Effect s number k o m.memory (holding m k) n (holding after k)
    eff' = subst (λ (y : Stage). Effect s number k o m.memory (holding m k) n y) (sym here) eff

    other_sound : (j : ℕ) → j < processes s → j ≢ k → ProcessSound s n (holding after) j (process_of m j)
    other_sound j jp ne =
        let q : ProcessSound s m.memory (holding m) j (process_of m j) = inv.process j jp in
        record {
          within = q.within;
          leaf = own_stable eff j jp (process_of m j).begun (λ e. absurd (ne e)) (holding m j) q.leaf;
          carried = carried_stable s m.memory n inv.sound (holding m) (holding after) k kp o eff' others (registers s m inv) j jp (process_of m j).begun (holding m j) q.carried;
          bounded = q.bounded;
          helped = q.helped;
        }

    keeps : Sized s n → ProcessSound s n (holding after) k p → Invariant s after
    unfolding with_process
    keeps sized own =
        record {
          sized = sized;
          counted = length-set m.processes k p ∙ inv.counted;
          sound = sound_grows s m.memory n inv.sound eff.grows;
          process = λ j jp. on j jp (ℕ_discrete j k);
        }
      where
        on : (j : ℕ) → j < processes s → Dec (j ≡ k) → ProcessSound s n (holding after) j (process_of after j)
        on j jp (yes e) =
            subst (λ (i : ℕ). ProcessSound s n (holding after) i (process_of after i)) (sym e)
            (subst (ProcessSound s n (holding after) k) (sym (process_here s m inv.counted k kp p n)) own)
        on j jp (no e) = subst (ProcessSound s n (holding after) j) (sym (process_other s m inv.counted k kp p n j e)) (other_sound j jp e)

-- ---- a begin
module _ (s : Shape) (m : Machine) (inv : Invariant s m) (k : ℕ) (kp : k < processes s) (o : Operation) (rests : (process_of m k).status ≡ Idle)
    (few : (process_of m k).begun < s.most)
  where
    leaf_open : LeafDone s m.memory k (process_of m k).begun → LeafOpen s m.memory k ((process_of m k).begun + 1)
    leaf_open d = record { some = omega arith; ends = λ i l. d.ends i (omega arith); head = d.head }

    -- the process, and the others
    pub begun_here : process_of (begin m k o) k ≡ entered (process_of m k) o
    unfolding begin
    begun_here = process_here s m inv.counted k kp _ m.memory

    pub begun_other : (j : ℕ) → j ≢ k → process_of (begin m k o) j ≡ process_of m j
    unfolding begin
    begun_other j ne = process_other s m inv.counted k kp _ m.memory j ne

    pub begin_keeps : Invariant s (begin m k o)
    unfolding begin
    begin_keeps =
        keeps s m inv k kp _ m.memory o (still s 0 k o m.memory (λ d u h e q. absurd q)) inv.sized
        (record {
          within = omega arith;
          leaf = leaf_open (subst (λ (x : Status). OwnLeaf s m.memory k (process_of m k).begun (stage_of x)) rests (inv.process k kp).leaf);
          carried = tt;
          bounded = omega arith;
          helped = omega arith;
        })

-- ---- a step
module _ (s : Shape) (tall : 1 ≤ s.height) (number : ℕ) (m : Machine) (inv : Invariant s m) (k : ℕ) (kp : k < processes s) (o : Operation) (n : Step)
    (busy : (process_of m k).status ≡ Busy o n)
  where
    abbrev r : Stepped
    r = step s number k o m.memory n

    abbrev p : Process
    p = process_of m k

    abbrev next : Process
    next = stepped p r

    at : holding m k ≡ stage n
    at = ap stage_of busy

    pub own : OwnLeaf s m.memory k p.begun (stage n)
    own = subst (OwnLeaf s m.memory k p.begun) at (inv.process k kp).leaf

    pub carried : Carried s m.memory (holding m) k p.begun (stage n)
    carried = subst (Carried s m.memory (holding m) k p.begun) at (inv.process k kp).carried

    eff : Effect s number k o m.memory (stage n) r.memory (stage_of r.next)
    eff = effect s number k o m.memory inv.sized inv.sound kp p.begun (inv.process k kp).within (holding m) (turn s number k o m.memory n) own carried

    pub step_effect : Effect s number k o m.memory (holding m k) r.memory (stage_of r.next)
    step_effect = subst (λ (x : Stage). Effect s number k o m.memory x r.memory (stage_of r.next)) (sym at) eff

    -- what it may still take is less
    pub rest_lower : rest_of s r.next < rest s n
    rest_lower = rest_step s tall number k kp o m.memory n (step_nodes s m.memory (holding m) k kp p.begun n carried)

    own_sound : ProcessSound s r.memory (holding (with_process m k next r.memory)) k next
    own_sound =
        record {
          within = (inv.process k kp).within;
          leaf = own_turn s number k kp o m.memory inv.sized inv.sound (holding m) p.begun (turn s number k o m.memory n) eff own carried;
          carried =
              carried_turn s m.memory inv.sized inv.sound (holding m) (holding (with_process m k next r.memory)) number k kp o
              (others s m inv k kp next r.memory o step_effect) (registers s m inv) p.begun (inv.process k kp).within (turn s number k o m.memory n) at
              (here s m inv k kp next r.memory o step_effect) (eff' s m inv k kp next r.memory o step_effect) own carried;
          bounded = omega (arith, subst (λ (x : Status). p.steps + rest_of s x ≤ rest s A) busy (inv.process k kp).bounded, rest_lower);
          helped = both (λ (n : ℕ). n ≤ p.steps + 1) r.helped (omega (arith, (inv.process k kp).helped)) (omega (arith, (inv.process k kp).helped));
        }

    -- the operation has not taken all the own steps that it may take
    pub steps_left : p.steps < rest s A
    steps_left = omega (arith, own_sound.bounded)

    from_keeps : Invariant s (step_from s number m k (Busy o n))
    unfolding step_from
    from_keeps =
        keeps s m inv k kp next r.memory o step_effect
        (turn_sized s m.memory (holding m) k kp p.begun (turn s number k o m.memory n) carried inv.sized) own_sound

    pub step_keeps : Invariant s (step_of s number m k)
    unfolding step_of
    step_keeps = subst (λ (x : Status). Invariant s (step_from s number m k x)) (sym busy) from_keeps

    -- what a step leaves: the memory, the process and the others
    stepped_machine : step_of s number m k ≡ with_process m k next r.memory
    unfolding step_of step_from
    stepped_machine = ap (step_from s number m k) busy

    pub stepped_memory : (step_of s number m k).memory ≡ r.memory
    unfolding with_process
    stepped_memory = ap (λ (x : Machine). x.memory) stepped_machine

    pub stepped_here : process_of (step_of s number m k) k ≡ next
    stepped_here = ap (λ (x : Machine). process_of x k) stepped_machine ∙ process_here s m inv.counted k kp next r.memory

    pub stepped_other : (j : ℕ) → j ≢ k → process_of (step_of s number m k) j ≡ process_of m j
    stepped_other j ne = ap (λ (x : Machine). process_of x j) stepped_machine ∙ process_other s m inv.counted k kp next r.memory j ne

-- ---- the start
module _ (s : Shape) where
  pub start_process : (k : ℕ) → k < processes s → process_of (start s) k ≡ idle
  unfolding start process_of
  start_process k kp = get_or-replicate (processes s) k idle idle kp

  idle_sound : (k : ℕ) → ProcessSound s (cleared s) (holding (start s)) k idle
  unfolding idle
  idle_sound k =
      record {
        within = omega arith;
        leaf = record { ends = λ i l. cleared_count s (leaf_of s k) i; head = cleared_head s (leaf_of s k) };
        carried = tt;
        bounded = omega arith;
        helped = omega arith;
      }

  pub start_invariant : Invariant s (start s)
  unfolding start
  start_invariant =
      record {
        sized = cleared_sized s;
        counted = length-replicate (processes s) idle;
        sound = cleared_sound s;
        process = λ k kp. subst (ProcessSound s (cleared s) (holding (start s)) k) (sym (start_process k kp)) (idle_sound k);
      }
