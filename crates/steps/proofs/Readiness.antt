-- The invariant gives each process what its next step needs, for at most 8 processes and at most 500 operations of
-- each.
use Prim.Native.Nat.{ℕ, zero, suc, ◌+◌, ◌*◌, ◌-◌, ◌≤◌, ◌<◌}
use native.Mathlib.Omega.{arith}
use native.Mathlib.Nat.{le_refl}
use mathlib.Core.Path.{◌≡◌, subst}
use mathlib.Core.Logic.{inl, inr}
use mathlib.Core.Bool.{false, true≢false}
use mathlib.Core.List.{List}
use lib.Dec.{eqb}
use Rattle.base.proofs.Cases.{both}
use Rattle.tree.specs.declared.Kind.TheVariants.{Puts, Takes}
use Rattle.tree.specs.Shape.{Shape, processes, left_of, right_of, leaf_of, last_place}
use Rattle.tree.specs.Memory.{Memory, head_of, block}
use Rattle.tree.specs.Size.{root_size}
use Rattle.tree.specs.Order.{total}
use Rattle.tree.specs.Sides.{onLeft, onRight, child_of}
use Rattle.tree.specs.Clauses.Invariant.{Node, Inner, Written, zeros, Sound}
use Rattle.tree.proofs.Nodes.{child_node, inner_node, leaf_node}
use Rattle.tree.proofs.Heights.{leaf_places, node_places}
use Rattle.tree.proofs.Sound.{below_head, before_written, place_count, first_zeros}
use Rattle.steps.specs.declared.Operation.{Operation}
use Rattle.steps.specs.declared.Visit.{Visit}
use Rattle.steps.specs.declared.Built.{Built}
use Rattle.steps.specs.declared.Step.{Step}
use Rattle.steps.specs.declared.Step.TheVariants.{A, V1, V2, V3, R1, R2, R3, R4, R5, C1, C2, C3L, C3R, C3N, C4, Q}
use Rattle.steps.specs.declared.Status.{Status}
use Rattle.steps.specs.declared.Status.TheVariants.{Busy}
use Rattle.steps.specs.Rules.{built, block_of}
use Rattle.steps.specs.Machine.{Machine, process_of, is_q}
use Rattle.steps.specs.Clauses.Ready.{Children, Adds, Sums, Decides, Ready}
use Rattle.tree.specs.Clauses.Access.{HasPlace}
use Rattle.tree.specs.Clauses.SoundTree.{SoundTree}
use Rattle.tree.proofs.Places.{processes_most, places_most, node_headed, node_part_lem, node_place, node_reads, node_small, below_within, present_within}
use Rattle.steps.proofs.Stages.{counted_left, counted_both, Stage, stage, stage_of, made}
use Rattle.steps.proofs.Progress.{LeafOpen, EndOk, Tallied, HandOk, OwnLeaf, Carried}
use Rattle.steps.proofs.Builds.{totals_grow}
use Rattle.steps.proofs.Costs.{StepNodes}
use Rattle.steps.proofs.Invariant.{Invariant, holding, step_nodes}

-- the size of an inner node's block is at most its puts
size_most : (s : Shape) (m : Memory) → Sound s m → (v : ℕ) → Inner s v → (i : ℕ) → Written s m v i → (block s m v i).size ≤ (block s m v i).puts
unfolding zeros root_size total
size_most s m sound v iv zero p = rw (first_zeros (sound.node v (inner_node s v iv))) (le_refl 0)
size_most s m sound v iv (suc i) (inl e) = absurd (omega arith)
size_most s m sound v iv (suc i) (inr f) =
    let n = sound.node v (inner_node s v iv) in
    let ih = size_most s m sound v iv i (before_written n i f) in
    let up = (n.follows i f).rises Puts in
    rw (sound.joins v iv i f).sized
    (both (λ (x : ℕ). x ≤ (block s m v (suc i)).puts) (eqb v 1) (omega arith) (omega arith))

module _ (s : Shape) (m : Memory) (q : SoundTree s m.heads m.table) where
  abbrev sound : Sound s m
  sound = q.sound

  children : (w : Visit) → Inner s w.node → Children m.heads w
  children w iv = record { low = omega (arith, iv.last, processes_most s q.tall); both = omega (arith, q.sized.heads, iv.last) }

  adds : (k b : ℕ) → k < processes s → b ≤ s.most → LeafOpen s m k b → Adds s m.heads m.table (leaf_of s k)
  unfolding head_of
  adds k b kp h o =
      let n = leaf_node s k kp in
      let x = node_small q (leaf_of s k) (head_of m (leaf_of s k) - 1) n in
      record {
        node = node_headed q (leaf_of s k) n;
        head = omega (arith, o.some, o.head);
        here = node_place q (leaf_of s k) (head_of m (leaf_of s k)) n (omega (arith, o.head, leaf_places s k kp));
        puts = omega arith;
        takes = omega arith;
      }

  module _ (w : Visit) (iv : Inner s w.node) where
    abbrev left : Node s (2 * w.node)
    left = omega (arith, iv.first, iv.last)

    abbrev right : Node s (2 * w.node + 1)
    right = omega (arith, iv.first, iv.last)

    left_place : (l : ℕ) → EndOk s m w onLeft l → HasPlace s m.table (2 * w.node) l
    unfolding left_of
    left_place l lo = node_place q (2 * w.node) l left (below_within q (2 * w.node) l left lo.below)

    sums : (l r : ℕ) → EndOk s m w onRight r → (puts takes : ℕ) → Tallied s m w l r (counted_left puts takes) → Sums s m.table w r puts takes
    unfolding left_of right_of
    sums l r ro puts takes told =
        let x = rw (node_reads q (2 * w.node) l) at (node_small q (2 * w.node) l left) in
        let y = node_small q (2 * w.node + 1) r right in
        record {
          place = node_place q (2 * w.node + 1) r right (below_within q (2 * w.node + 1) r right ro.below);
          puts_low = omega (arith, told.0);
          takes_low = omega (arith, told.1);
        }

  module _ (w : Visit) (iv : Inner s w.node) (first : 1 ≤ w.head) (last : w.head ≤ head_of m w.node) where
    abbrev node : Node s w.node
    node = inner_node s w.node iv

    decides : (l r : ℕ) → EndOk s m w onLeft l → EndOk s m w onRight r → (puts takes : ℕ) → Tallied s m w l r (counted_both puts takes)
        → Decides s m.table w puts takes
    unfolding left_of right_of total built block_of
    decides l r lo ro puts takes told =
        let x = rw (node_reads q (2 * w.node) l) at (node_small q (2 * w.node) l (left w iv)) in
        let y = rw (node_reads q (2 * w.node + 1) r) at (node_small q (2 * w.node + 1) r (right w iv)) in
        let rise = totals_grow s m sound w iv first last l r lo ro puts takes told 0 in
        let sized = size_most s m sound w.node iv (w.head - 1) (below_head (sound.node w.node node) (w.head - 1) (omega arith)) in
        record {
          head = first;
          place = node_place q w.node (w.head - 1) node (below_within q w.node (w.head - 1) node (omega arith));
          puts_low = omega (arith, told.0);
          puts_rise = rw (node_reads q w.node (w.head - 1)) (rise Puts);
          takes_rise = rw (node_reads q w.node (w.head - 1)) (rise Takes);
          size_low = λ _. rw (node_reads q w.node (w.head - 1)) (omega (arith, sized, rise Puts, told.0));
        }

    made_place : (n : Built) → HandOk s m w (made n) → w.head ≤ last_place s w.node
    unfolding total
    made_place n h =
        let x = (h 0).1.sums Puts in
        let y = (h 0).1.sums Takes in
        omega (
          arith,
          place_count (sound.node w.node node) (w.head - 1) (below_head (sound.node w.node node) (w.head - 1) (omega arith)),
          (h 0).0.more,
          node_places s w.node iv.first iv.last,
          (sound.node (child_of onLeft w.node) (child_node s onLeft w.node iv)).within (block_of 0 n).left,
          (sound.node (child_of onRight w.node) (child_node s onRight w.node iv)).within (block_of 0 n).right,
        )

  -- a step of process k, in its operation b
  module _ (hold : ℕ → Stage) (k : ℕ) (kp : k < processes s) (b : ℕ) (within : b ≤ s.most) where
    next : (n : Step) → is_q n ≡ false → OwnLeaf s m k b (stage n) → Carried s m hold k b (stage n) → StepNodes s n → Ready s m.heads m.table (leaf_of s k) n
    unfolding is_q head_of
    next A more own carried nodes = adds k b kp within own
    next (V1 a w v h) more own carried nodes = omega (arith, node_headed q v carried.node)
    next (V2 a w v h x) more own carried nodes = (node_headed q v carried.node, node_place q v h carried.node (present_within q v h carried.node carried.present))
    next (V3 a w v h) more own carried nodes = (node_headed q v carried.node, omega (arith, present_within q v h carried.node carried.present, places_most s q.tall q.few v))
    next (R1 z v) more own carried nodes = node_headed q v (inner_node s v nodes)
    next (R2 w) more own carried nodes = children w nodes
    next (R3 w c) more own carried nodes = (children w nodes, node_part_lem q (2 * w.node) (omega arith))
    next (R4 w) more own carried nodes = children w nodes
    next (R5 w c) more own carried nodes = (children w nodes, node_part_lem q (2 * w.node + 1) (omega arith))
    next (C1 w) more own carried nodes = (children w nodes, (sound.node (2 * w.node) (omega arith)).head)
    next (C2 w l) more own carried nodes = (children w nodes, (sound.node (2 * w.node + 1) (omega arith)).head)
    next (C3L w l r) more own carried nodes = (children w nodes, left_place w nodes l carried.hand.0)
    next (C3R w l r puts takes) more own carried nodes = (children w nodes, sums w nodes l r carried.hand.1 puts takes carried.hand.2)
    next (C3N w l r puts takes) more own carried nodes =
        (children w nodes, decides w nodes carried.refreshing.first carried.refreshing.last l r carried.hand.0 carried.hand.1 puts takes carried.hand.2)
    next (C4 w n) more own carried nodes =
        let node = inner_node s w.node nodes in (
          node_headed q w.node node,
          node_place q w.node w.head node (made_place w nodes carried.refreshing.first carried.refreshing.last n carried.hand),
        )
    next Q more own carried nodes = absurd (true≢false more)

-- of a machine whose invariant holds
pub ready : (s : Shape) (m : Machine) → Invariant s m → SoundTree s m.memory.heads m.memory.table
    → (k : ℕ) → k < processes s → (o : Operation) (n : Step) → (process_of m k).status ≡ Busy o n → is_q n ≡ false
    → Ready s m.memory.heads m.memory.table (leaf_of s k) n
ready s m inv tree k kp o n e more =
    let p = inv.process k kp in
    let own = subst (λ (x : Status). OwnLeaf s m.memory k (process_of m k).begun (stage_of x)) e p.leaf in
    let carried = subst (λ (x : Status). Carried s m.memory (holding m) k (process_of m k).begun (stage_of x)) e p.carried in
    next s m.memory tree (holding m) k kp (process_of m k).begun p.within n more own carried
    (step_nodes s m.memory (holding m) k kp (process_of m k).begun n carried)
