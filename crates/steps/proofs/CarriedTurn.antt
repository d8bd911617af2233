-- How far an operation has come after any turn of its own process. The second C4 is where two refreshes are seen to be
-- enough: the block that was written there first reaches the operation too.
use Prim.Native.Nat.{ℕ, suc, ◌-◌, ◌≤◌, ◌<◌}
use native.Mathlib.Omega.{arith}
use mathlib.Core.Path.{◌≡◌, refl, ap, sym, ◌∙◌, subst}
use mathlib.Core.Logic.{◌≢◌, inr}
use mathlib.Core.Bool.{true, false}
use Rattle.tree.specs.Shape.{Shape, processes, leaf_of, last_place}
use Rattle.tree.specs.Blocks.{absent}
use Rattle.tree.specs.Memory.{Memory, head_of, block, raise}
use Rattle.tree.specs.Sides.{Side, child_of, end_of, onLeft, onRight}
use Rattle.tree.specs.Clauses.Invariant.{Node, Inner, Present, Sound, Sized}
use Rattle.tree.proofs.Nodes.{child_node, inner_node, leaf_node}
use Rattle.tree.proofs.Heights.{leaf_places}
use Rattle.tree.proofs.Presence.{present_count}
use Rattle.tree.proofs.Sound.{below_head, present_low, place_count}
use Rattle.tree.proofs.Writes.{write_here, raise_past}
use Rattle.tree.proofs.Ancestors.{ancestor, side_at, child_at, ancestor_node, ancestor_inner}
use Rattle.tree.proofs.Reach.{reach, reach_zero, reach_suc}
use Rattle.steps.specs.declared.Operation.{Operation}
use Rattle.steps.specs.declared.Refresh.{Refresh}
use Rattle.steps.specs.declared.Refresh.TheVariants.{First, Second}
use Rattle.steps.specs.declared.Visit.{Visit}
use Rattle.steps.specs.declared.After.TheVariants.{Up}
use Rattle.steps.specs.declared.Built.{Built}
use Rattle.steps.specs.Rules.{after_failed, after_refresh, plus_operation, block_of}
use Rattle.steps.proofs.Stages.{made, Stage, advancing, Holds}
use Rattle.steps.proofs.Turns.{Turn, after_help, rests, adds, supers, raises, starts, assists, ends_left, ends_right, counts, makes, finds, writes, meets, finishes}
use Rattle.steps.proofs.Progress.{LeafOpen, OwnLeaf, Threshold, Refreshing, Passing, Failed, AfterAdvance, Advancing, Building, Carried}
use Rattle.steps.proofs.Others.{Effect, Registers, hand_below, reached, covered_stable, owed_stable, refreshing_stable, after_stable, carried_stable, sound'}
use Rattle.steps.proofs.Effects.{plus_one, made_has, build_fresh}
use Rattle.steps.proofs.OwnTurn.{resumed, started, read_left, read_right, counted, made_block, nothing_new}

module _ (s : Shape) (m : Memory) (sized : Sized s m) (sound : Sound s m) (hold hold' : ℕ → Stage) (number k : ℕ) (kp : k < processes s) (o : Operation)
    (others : (r : ℕ) → r ≢ k → hold' r ≡ hold r) (regs : Registers s m hold) (b : ℕ) (bm : b ≤ s.most)
  where
    refresh_inner : (w : Visit) → Refreshing s m hold k b w → Inner s w.node
    refresh_inner w r = rw r.node (ancestor_inner s k kp r.level r.low)

    -- ---- after C4
    module _ (n : Memory) (eff : Effect s number k o m (hold k) n (hold' k)) (w : Visit) (c : Built) (p : Building s m hold k b w (made c)) where
      abbrev re : Refreshing s m hold k b w
      re = p.refreshing

      -- the block just written has an own end in hand
      wrote_it : block s n w.node w.head ≡ block_of number c → b ≤ reach s n k (suc re.level) w.head
      wrote_it put =
          let d : Side = side_at s k re.level in
          let e : ℕ = end_of d (block_of number c) in
          let y : e < head_of m (ancestor s k re.level) =
          subst (λ (u : ℕ). e < head_of m u) (ap (λ (u : ℕ). child_of d u) re.node ∙ child_at s k re.level) (hand_below s m w d e (made c) p.hand (made_has number c d)) in
          let z : b ≤ reach s n k re.level e =
          reached s m n sound hold hold' k kp o eff others regs k kp b re.level (omega (arith, re.low)) e
          (below_head (sound.node (ancestor s k re.level) (ancestor_node s k kp re.level (omega (arith, re.low)))) e y) (p.mine e (made_has number c d)) in
          let f : end_of d (block s n (ancestor s k (suc re.level)) w.head) ≡ e = ap (λ (u : ℕ). end_of d (block s n u w.head)) (sym re.node) ∙ ap (end_of d) put in
          rw (reach_suc s n k re.level w.head, f) z

      -- the block that another wrote there reaches it, if this is a second refresh
      found_it : absent (block s m w.node w.head) ≡ false → re.limit < w.head → b ≤ reach s n k (suc re.level) w.head
      found_it e l =
          let f : Present s m (ancestor s k (suc re.level)) w.head = rw (← re.node) (present_count (block s m w.node w.head) e) in
          reached s m n sound hold hold' k kp o eff others regs k kp b (suc re.level) re.low w.head (inr f) (re.owed.blocks w.head l f)

      passing : b ≤ reach s n k (suc re.level) w.head → Passing s n k b w w.node w.head
      passing got = record { level = suc re.level; same = refl; node = re.node; low = re.low; got = got }

      failed : re.limit ≤ w.head → Failed s n hold' k b w w.node w.head
      failed l =
          record {
            level = re.level;
            limit = re.limit;
            same = refl;
            node = re.node;
            low = re.low;
            covered = covered_stable s m n sound hold hold' k kp o eff others regs k kp b re.level (omega (arith, re.low)) re.covered;
            bound = l;
            owed = owed_stable s m n sound hold hold' k kp o eff others regs k kp b re.level re.low re.covered re.limit re.owed;
          }

      after_written : block s n w.node w.head ≡ block_of number c → AfterAdvance s n hold' k b w (after_refresh w.refresh true) w.node w.head
      unfolding after_refresh
      after_written put = passing (wrote_it put)

      threshold : (q : Refresh) → w.refresh ≡ q → Threshold q re.limit w.head
      threshold q e = subst (λ (x : Refresh). Threshold x re.limit w.head) e re.bound

      -- if the place was taken, a first refresh is done again
      after_taken : (q : Refresh) → w.refresh ≡ q → absent (block s m w.node w.head) ≡ false → AfterAdvance s n hold' k b w (after_refresh q false) w.node w.head
      unfolding after_refresh after_failed
      after_taken First e f = failed (threshold First e)
      after_taken Second e f = passing (found_it f (threshold Second e))

    -- the place of a block that may be written is in the node
    place_within : (w : Visit) (c : Built) → (p : Building s m hold k b w (made c)) → Inner s w.node → absent (block s m w.node w.head) ≡ true → w.head ≤ last_place s w.node
    place_within w c p iv free =
        let q = sound.node w.node (inner_node s w.node iv) in
        let f = build_fresh s number k o m sized sound kp b bm hold w c p iv free in
        omega (
          arith,
          f.within,
          f.follows.more,
          p.refreshing.first,
          place_count q (w.head - 1) (below_head q (w.head - 1) (omega (arith, p.refreshing.first, p.refreshing.last))),
        )

    -- ---- after A
    added : (n : Memory) → block s n (leaf_of s k) (head_of m (leaf_of s k)) ≡ plus_operation number o (block s m (leaf_of s k) (head_of m (leaf_of s k) - 1)) → LeafOpen s m k b
        → Advancing s n hold' k b (record { node = leaf_of s k; refresh = First; head = head_of m (leaf_of s k) }) Up (leaf_of s k) (head_of m (leaf_of s k))
    added n put lo =
        record {
          node = leaf_node s k kp;
          present = rw put (omega (arith, plus_one number o (block s m (leaf_of s k) (head_of m (leaf_of s k) - 1))));
          then = record { level = 0; same = refl; node = refl; low = omega arith; got = rw (reach_zero s n k (head_of m (leaf_of s k))) (omega (arith, lo.head)) };
        }

    -- ---- every turn
    pub carried_turn : {x : Stage} {n : Memory} {y : Stage} → Turn s number k o m x n y → hold k ≡ x → hold' k ≡ y → Effect s number k o m (hold k) n (hold' k)
        → OwnLeaf s m k b x → Carried s m hold k b x → Carried s n hold' k b y
    carried_turn (rests x) e f eff own p = carried_stable s m m sound hold hold' k kp o eff others regs k kp b x p
    carried_turn adds e f eff own p =
        added _ (write_here s m (leaf_of s k) (head_of m (leaf_of s k)) (plus_operation number o (block s m (leaf_of s k) (head_of m (leaf_of s k) - 1))) sized (leaf_node s k kp)
        (omega (arith, leaf_places s k kp, own.head))) own
    carried_turn (supers w a v h z) e f eff own p = carried_stable s m _ sound hold hold' k kp o eff others regs k kp b (advancing w a v h) p
    carried_turn (raises w a v h) e f eff own p =
        let nv : Node s v = p.node in
        resumed s (raise m v h) (sound' s m (raise m v h) sound hold hold' k kp o eff others regs k kp b) hold' k kp b w a v h
        (raise_past m v h (omega (arith, nv.last, sized.heads)) (present_low (sound.node v nv) h p.present))
        (after_stable s m (raise m v h) sound hold hold' k kp o eff others regs k kp b w a v h p.present p.then)
    carried_turn (starts v q) e f eff own p =
        started s m sound hold hold' k kp o eff others regs b v q (λ d u h z r. (subst (λ (y : Stage). Holds d y u h z) f r).2) p
    carried_turn (assists w d c g) e f eff own p =
        record {
          node = child_node s d w.node (refresh_inner w p.refreshing);
          present = present_count (block s m (child_of d w.node) c) g;
          then = helped d (refreshing_stable s m m sound hold hold' k kp o eff others regs k kp b w p.refreshing);
        }
      where
        helped : (d : Side) → Refreshing s m hold' k b w → AfterAdvance s m hold' k b w (after_help d) (child_of d w.node) c
        helped onLeft r = r
        helped onRight r = r
    carried_turn (ends_left w l g) e f eff own p = read_left s m sound hold hold' k kp o eff others regs b w p.refreshing l g
    carried_turn (ends_right w l r g) e f eff own p = read_right s m sound hold hold' k kp o eff others regs b w l r g p
    carried_turn (counts w l r x y g) e f eff own p = counted s m sound hold hold' k kp o eff others regs b w l r x y g p
    carried_turn (makes w l r puts takes g) e f eff own p = made_block s m sound hold hold' k kp o eff others regs b w l r puts takes p g
    carried_turn (finds w l r puts takes g) e f eff own p = nothing_new s m sound hold hold' k kp o eff others regs b w l r puts takes p g
    carried_turn (writes w c g) e f eff own p =
        let iv : Inner s w.node = refresh_inner w p.refreshing in
        let put = write_here s m w.node w.head (block_of number c) sized (inner_node s w.node iv) (place_within w c p iv g) in
        record { node = inner_node s w.node iv; present = rw put (omega (arith, (p.hand number).0.more)); then = after_written _ eff w c p put }
    carried_turn (meets w c g) e f eff own p =
        record {
          node = inner_node s w.node (refresh_inner w p.refreshing);
          present = present_count (block s m w.node w.head) g;
          then = after_taken m eff w c p w.refresh refl g;
        }
    carried_turn finishes e f eff own p = tt
