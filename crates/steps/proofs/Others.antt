-- What is known of a process stays known after a turn of any process.
use Prim.Native.Nat.{ℕ, zero, suc, ◌-◌, ◌≤◌, ◌<◌}
use native.Mathlib.Omega.{arith}
use native.Mathlib.Decide.{ℕ_discrete}
use native.Mathlib.Nat.{le_refl}
use mathlib.Core.Path.{◌≡◌, sym, ◌∙◌}
use mathlib.Core.Logic.{◌≢◌, ◌⊎◌, inl, inr}
use Rattle.tree.specs.Shape.{Shape, processes, root, leaf_of, left_of, right_of}
use Rattle.tree.specs.Memory.{Memory, head_of, block}
use Rattle.tree.specs.Sides.{Side, onLeft, onRight, child_of, end_of}
use Rattle.tree.specs.Clauses.Invariant.{Node, Inner, Present, Written, NodeSound, Sound}
use Rattle.tree.proofs.Nodes.{child_node, inner_node}
use Rattle.tree.proofs.Sound.{below_head}
use Rattle.tree.proofs.Growth.{Same, Grows, same_refl, same_end, heads_rise, present_stays, follows_same, joins_grows, sound_grows}
use Rattle.tree.proofs.Ancestors.{ancestor, side_at, child_at, ancestor_node, ancestor_inner, ancestor_root}
use Rattle.tree.proofs.Reach.{reach, reach_suc, reach_rises, reach_stays}
use Rattle.steps.specs.declared.Operation.{Operation}
use Rattle.steps.specs.declared.Refresh.{Refresh}
use Rattle.steps.specs.declared.Visit.{Visit}
use Rattle.steps.specs.declared.After.{After}
use Rattle.steps.specs.declared.After.TheVariants.{Right, Ends, Again, Up}
use Rattle.steps.specs.Rules.{block_of, plus_operation}
use Rattle.steps.proofs.Stages.{Tally, uncounted, counted_left, counted_both, Hand, none, one, two, made, Stage, resting, adding, advancing, starting, building, answering, HasEnd, Holds}
use Rattle.steps.proofs.Progress.{Covered, Owed, Refreshing, Starting, AfterAdvance, EndOk, Tallied, HandOk, Building, Rooted, Carried}

-- a block in the leaf of process r after a turn of process a, in stage x: it was there, or a has just added it
abbrev pub LeafWrote : Shape → ℕ → ℕ → Operation → Memory → Stage → Memory → ℕ → ℕ → Type 0
LeafWrote s number a o m x n r i =
    Present s m (leaf_of s r) (suc i)
    ⊎ ((r ≡ a) × (x ≡ adding) × (suc i ≡ head_of m (leaf_of s a)) × (block s n (leaf_of s r) (suc i) ≡ plus_operation number o (block s m (leaf_of s a) i)))

-- a block in inner node u after it: it was there, or a had its ends in hand
abbrev pub InnerWrote : Shape → Memory → Stage → Memory → ℕ → ℕ → Type 0
InnerWrote s m x n u i = Present s m u (suc i) ⊎ ((d : Side) → Holds d x u (suc i) (end_of d (block s n u (suc i))))

-- what a turn of process a, by the record with this number, does to memory m, from stage x to memory n and stage y
pub record Effect (s : Shape) (number a : ℕ) (o : Operation) (m : Memory) (x : Stage) (n : Memory) (y : Stage) : Type 0 where
  pub grows : Grows s m n
  pub leaves : (r i : ℕ) → Present s n (leaf_of s r) (suc i) → LeafWrote s number a o m x n r i
  pub inners : (u i : ℕ) → Inner s u → Present s n u (suc i) → InnerWrote s m x n u i
  -- an end that a now holds it held before, or it has just read the head
  pub gains : (d : Side) (u h e : ℕ) → Holds d y u h e → Holds d x u h e ⊎ (e ≡ head_of m (child_of d u) - 1)

-- what is known of the registers of every process
pub record Registers (s : Shape) (m : Memory) (hold : ℕ → Stage) : Type 0 where
  pub ends : (r : ℕ) → r < processes s → (d : Side) (u h e : ℕ) → Holds d (hold r) u h e → e < head_of m (child_of d u)
  pub heads : (r : ℕ) → r < processes s → (d : Side) (u h e : ℕ) → Holds d (hold r) u h e → h ≤ head_of m u

pub hand_below : (s : Shape) (m : Memory) (w : Visit) (d : Side) (e : ℕ) (x : Hand) → HandOk s m w x → HasEnd d x e → e < head_of m (child_of d w.node)
unfolding block_of
hand_below s m w onLeft e none p q = absurd q
hand_below s m w onLeft e (one l) p q = rw (← q) p.below
hand_below s m w onLeft e (two l r x) p q = rw (← q) p.0.below
hand_below s m w onLeft e (made n) p q = rw (← q) ((p 0).1.below onLeft)
hand_below s m w onRight e none p q = absurd q
hand_below s m w onRight e (one l) p q = absurd q
hand_below s m w onRight e (two l r x) p q = rw (← q) p.1.below
hand_below s m w onRight e (made n) p q = rw (← q) ((p 0).1.below onRight)

-- ---- a turn of process a: from memory m and stages hold to memory n and stages hold'
module _ (s : Shape) (m n : Memory) (sound : Sound s m) (hold hold' : ℕ → Stage) {number : ℕ} (a : ℕ) (ap' : a < processes s) (o : Operation)
    (eff : Effect s number a o m (hold a) n (hold' a)) (others : (r : ℕ) → r ≢ a → hold' r ≡ hold r) (regs : Registers s m hold) (k : ℕ) (kp : k < processes s) (b : ℕ)
  where
    abbrev g : Grows s m n
    g = eff.grows

    pub sound' : Sound s n
    sound' = sound_grows s m n sound g

    last_written : (v : ℕ) → Node s v → Written s m v (head_of m v - 1)
    last_written v nv = let q = sound.node v nv in below_head q (head_of m v - 1) (omega (arith, q.head))

    pub reached : (j : ℕ) → j ≤ s.height → (i : ℕ) → Written s m (ancestor s k j) i → b ≤ reach s m k j i → b ≤ reach s n k j i
    reached j h i p l = rw (reach_stays s m sound k kp n g.stays j h i p) l

    pub covered_stable : (j : ℕ) → j ≤ s.height → Covered s m k b j → Covered s n k b j
    covered_stable j h c =
        let nv : Node s (ancestor s k j) = ancestor_node s k kp j h in
        let q : NodeSound s n (ancestor s k j) = sound'.node (ancestor s k j) nv in
        let r : head_of m (ancestor s k j) ≤ head_of n (ancestor s k j) = heads_rise g (ancestor s k j) nv in
        let x : b ≤ reach s n k j (head_of m (ancestor s k j) - 1) = reached j h _ (last_written (ancestor s k j) nv) c in
        omega (
          arith,
          reach_rises s n sound' k kp j h (head_of m (ancestor s k j) - 1) (head_of n (ancestor s k j) - 1) (omega arith)
              (below_head q (head_of n (ancestor s k j) - 1) (omega (arith, q.head))),
        )

    module _ (j : ℕ) (low : suc j ≤ s.height) (cov : Covered s m k b j) (t : ℕ) (owed : Owed s m hold k b j t) where
      abbrev up : ℕ
      up = ancestor s k (suc j)

      nj : Node s (ancestor s k j)
      nj = ancestor_node s k kp j (omega arith)

      end_reached : (r : ℕ) → r < processes s → (h e : ℕ) → Holds (side_at s k j) (hold r) up h e → t < h → b ≤ reach s n k j e
      end_reached r rp h e q l =
          let z : e < head_of m (ancestor s k j) = rw (child_at s k j) at (regs.ends r rp (side_at s k j) up h e q) in
          reached j (omega arith) e (below_head (sound.node (ancestor s k j) nj) e z) (owed.ends r rp h e q l)

      blocks_stable : (i : ℕ) → t < i → Present s n up i → b ≤ reach s n k (suc j) i
      blocks_stable zero l f = absurd (omega arith)
      blocks_stable (suc i) l f = on (eff.inners up i (ancestor_inner s k kp j low) f)
        where
          on : InnerWrote s m (hold a) n up i → b ≤ reach s n k (suc j) (suc i)
          on (inl f0) = reached (suc j) low (suc i) (inr f0) (owed.blocks (suc i) l f0)
          on (inr q) = rw (reach_suc s n k j (suc i)) (end_reached a ap' (suc i) _ (q (side_at s k j)) l)

      ends_stable : (r : ℕ) → r < processes s → (h e : ℕ) → Holds (side_at s k j) (hold' r) up h e → t < h → b ≤ reach s n k j e
      ends_stable r rp h e q l = on (ℕ_discrete r a)
        where
          own : Holds (side_at s k j) (hold a) up h e ⊎ (e ≡ head_of m (child_of (side_at s k j) up) - 1) → b ≤ reach s n k j e
          own (inl q') = end_reached a ap' h e q' l
          own (inr z) = let y : e ≡ head_of m (ancestor s k j) - 1 = rw (child_at s k j) at z in rw y (reached j (omega arith) _ (last_written (ancestor s k j) nj) cov)

          on : Dec (r ≡ a) → b ≤ reach s n k j e
          on (yes x) = own (eff.gains (side_at s k j) up h e (rw x at q))
          on (no x) = end_reached r rp h e (rw (others r x) at q) l

      pub owed_stable : Owed s n hold' k b j t
      owed_stable = record { blocks = blocks_stable; ends = ends_stable }

    pub refreshing_stable : (w : Visit) → Refreshing s m hold k b w → Refreshing s n hold' k b w
    refreshing_stable w r =
        record {
          level = r.level;
          limit = r.limit;
          node = r.node;
          low = r.low;
          covered = covered_stable r.level (omega (arith, r.low)) r.covered;
          first = r.first;
          last = omega (arith, r.last, heads_rise g w.node (rw r.node (ancestor_node s k kp (suc r.level) r.low)));
          bound = r.bound;
          owed = owed_stable r.level r.low r.covered r.limit r.owed;
        }

    starting_stable : (v : ℕ) (q : Refresh) → Starting s m hold k b v q → Starting s n hold' k b v q
    starting_stable v q r =
        record {
          level = r.level;
          node = r.node;
          low = r.low;
          covered = covered_stable r.level (omega (arith, r.low)) r.covered;
          owing =
              λ e.
              let x = r.owing e in
              (x.0, omega (arith, x.1, heads_rise g v (rw r.node (ancestor_node s k kp (suc r.level) r.low))), owed_stable r.level r.low r.covered x.0 x.2);
        }

    pub after_stable : (w : Visit) (x : After) (v h : ℕ) → Present s m v h → AfterAdvance s m hold k b w x v h → AfterAdvance s n hold' k b w x v h
    after_stable w Right v h f p = refreshing_stable w p
    after_stable w Ends v h f p = refreshing_stable w p
    after_stable w Again v h f p =
        record {
          level = p.level;
          limit = p.limit;
          same = p.same;
          node = p.node;
          low = p.low;
          covered = covered_stable p.level (omega (arith, p.low)) p.covered;
          bound = p.bound;
          owed = owed_stable p.level p.low p.covered p.limit p.owed;
        }
    after_stable w Up v h f p =
        record {
          level = p.level;
          same = p.same;
          node = p.node;
          low = p.low;
          got = reached p.level p.low h (inr (rw (← p.node, ← p.same) f)) p.got;
        }

    module _ (w : Visit) (iv : Inner s w.node) (hl : w.head ≤ head_of m w.node) where
      before : Same (block s n w.node (w.head - 1)) (block s m w.node (w.head - 1))
      before =
          let q = sound.node w.node (inner_node s w.node iv) in
          g.stays w.node (w.head - 1) (inner_node s w.node iv) (below_head q (w.head - 1) (omega (arith, q.head)))

      at : (d : Side) (e : ℕ) → e < head_of m (child_of d w.node) → Same (block s n (child_of d w.node) e) (block s m (child_of d w.node) e)
      at d e l = let nv = child_node s d w.node iv in g.stays (child_of d w.node) e nv (below_head (sound.node (child_of d w.node) nv) e l)

      end_stable : (d : Side) (e : ℕ) → EndOk s m w d e → EndOk s n w d e
      end_stable d e x =
          record { rises = rw (same_end d before) x.rises; below = omega (arith, x.below, heads_rise g (child_of d w.node) (child_node s d w.node iv)) }

      -- the blocks at the ends stand below heads, so their totals stay
      tally_stable : (l r : ℕ) → l < head_of m (left_of w.node) → r < head_of m (right_of w.node) → (x : Tally) → Tallied s m w l r x → Tallied s n w l r x
      tally_stable l r lo ro uncounted p = tt
      tally_stable l r lo ro (counted_left puts takes) p = (p.0 ∙ sym (at onLeft l lo).puts, p.1 ∙ sym (at onLeft l lo).takes)
      tally_stable l r lo ro (counted_both puts takes) p =
          let x = at onLeft l lo in
          let y = at onRight r ro in
          (omega (arith, p.0, x.puts, y.puts), omega (arith, p.1, x.takes, y.takes))

      pub hand_stable : (x : Hand) → HandOk s m w x → HandOk s n w x
      hand_stable none p = tt
      hand_stable (one l) p = end_stable onLeft l p
      hand_stable (two l r x) p = (end_stable onLeft l p.0, end_stable onRight r p.1, tally_stable l r p.0.below p.1.below x p.2)
      hand_stable (made c) p = λ number. (
        follows_same _ (block_of number c) _ (block_of number c) before (same_refl (block_of number c)) (p number).0,
        joins_grows s m n sound g w.node iv _ (block_of number c) _ (block_of number c) before (same_refl (block_of number c)) (p number).1,
      )

    -- the refresh goes on with other ends in hand
    pub make_building : (w : Visit) (x : Hand) (r : Refreshing s m hold k b w) → HandOk s n w x
        → ((e : ℕ) → HasEnd (side_at s k r.level) x e → b ≤ reach s n k r.level e) → Building s n hold' k b w x
    unfolding refreshing_stable
    make_building w x r hand mine = record { refreshing = refreshing_stable w r; hand = hand; mine = mine }

    building_stable : (w : Visit) (x : Hand) → Building s m hold k b w x → Building s n hold' k b w x
    building_stable w x p =
        let r : Refreshing s m hold k b w = p.refreshing in
        let iv : Inner s w.node = rw r.node (ancestor_inner s k kp r.level r.low) in
        make_building w x r (hand_stable w iv r.last x p.hand)
        (λ e q.
        let y : e < head_of m (ancestor s k r.level) = rw (r.node, child_at s k r.level) at (hand_below s m w (side_at s k r.level) e x p.hand q) in
        reached r.level (omega (arith, r.low)) e (below_head (sound.node (ancestor s k r.level) (ancestor_node s k kp r.level (omega (arith, r.low)))) e y) (p.mine e q))

    pub rooted_stable : Rooted s m k b → Rooted s n k b
    unfolding root
    rooted_stable c = rw (ancestor_root s k kp) at (covered_stable s.height (le_refl _) (rw (ancestor_root s k kp) c))

    pub carried_stable : (x : Stage) → Carried s m hold k b x → Carried s n hold' k b x
    carried_stable resting p = tt
    carried_stable adding p = tt
    carried_stable (advancing w x v h) p = record { node = p.node; present = present_stays g v h p.node p.present; then = after_stable w x v h p.present p.then }
    carried_stable (starting v q) p = starting_stable v q p
    carried_stable (building w x) p = building_stable w x p
    carried_stable answering p = rooted_stable p
