-- How far an operation has come after a turn of its own process that reads only.
use Prim.Native.Nat.{ℕ, suc, ◌-◌, ◌≤◌, ◌<◌}
use native.Mathlib.Omega.{arith}
use native.Mathlib.Decide.{ℕ_discrete}
use native.Mathlib.Nat.{le_refl}
use mathlib.Core.Path.{◌≡◌, refl, ap, sym, ◌∙◌, subst}
use mathlib.Core.Logic.{◌≢◌}
use mathlib.Core.Bool.{true, false}
use lib.Dec.{eqb}
use borrow.Author.Tests.{eqb-true, eqb-false}
use Rattle.base.proofs.Cases.{cases}
use Rattle.tree.specs.declared.Block.{Block}
use Rattle.tree.specs.Shape.{Shape, processes, root, parent_of, left_of, right_of}
use Rattle.tree.specs.Memory.{Memory, head_of, block}
use Rattle.tree.specs.Sides.{Side, onLeft, onRight, child_of, end_of}
use Rattle.tree.specs.Clauses.Invariant.{Inner, Sound, NodeSound}
use Rattle.tree.proofs.Nodes.{child_node, inner_node}
use Rattle.tree.proofs.Sound.{below_head, present_low, end_below}
use Rattle.tree.proofs.Ancestors.{ancestor, side_at, child_at, ancestor_node, ancestor_inner, ancestor_root, root_height, not_root}
use Rattle.tree.proofs.Reach.{reach, reach_suc, reach_rises}
use Rattle.steps.specs.declared.Operation.{Operation}
use Rattle.steps.specs.declared.Refresh.{Refresh}
use Rattle.steps.specs.declared.Refresh.TheVariants.{First, Second}
use Rattle.steps.specs.declared.Visit.{Visit}
use Rattle.steps.specs.declared.After.{After}
use Rattle.steps.specs.declared.After.TheVariants.{Right, Ends, Again, Up}
use Rattle.steps.specs.Rules.{above, resume, same_totals, built}
use Rattle.steps.specs.declared.Step.{Step}
use Rattle.steps.proofs.Stages.{stage, Tally, uncounted, counted_both, Hand, none, one, two, made, Stage, above_stage, after_stage, HasEnd, Holds, ends_stay}
use Rattle.steps.proofs.Progress.{Covered, Owed, Refreshing, Starting, Passing, AfterAdvance, EndOk, Tallied, HandOk, Building, Carried}
use Rattle.steps.proofs.Others.{Effect, Registers, owed_stable, make_building}
use Rattle.steps.proofs.Builds.{built_follows, built_joins, same_ends}
use Rattle.steps.proofs.Effects.{made_ends}

first≢second : First ≡ Second → ⊥
first≢second e = let z : ◌≡◌ {A = ℕ} 0 1 = cc in omega arith

-- ---- what a present block that reaches the operation gives, once it is below the head
module _ (s : Shape) (n : Memory) (sound : Sound s n) (hold : ℕ → Stage) (k : ℕ) (kp : k < processes s) (b : ℕ) where
  covered_by : (j : ℕ) → j ≤ s.height → (i : ℕ) → i < head_of n (ancestor s k j) → b ≤ reach s n k j i → Covered s n k b j
  covered_by j h i l r =
      omega (
        arith,
        reach_rises s n sound k kp j h i (head_of n (ancestor s k j) - 1) (omega arith)
            (below_head (sound.node (ancestor s k j) (ancestor_node s k kp j h)) (head_of n (ancestor s k j) - 1) (omega arith)),
      )

  -- the parent's refresh begins, or Q
  pub go_up : (w : Visit) (v i : ℕ) → Passing s n k b w v i → i < head_of n v → Carried s n hold k b (above_stage w.node)
  unfolding root above
  go_up w v i p l =
      let cov : Covered s n k b p.level = covered_by p.level p.low i (subst (λ (u : ℕ). i < head_of n u) (p.same ∙ p.node) l) p.got in
      cases (λ (x : Step). Carried s n hold k b (stage x)) (eqb w.node 1)
      (λ f.
      let z : p.level ≡ s.height = root_height s k kp p.level p.low (sym p.node ∙ eqb-true w.node 1 f) in
      let c : Covered s n k b s.height = rw z at cov in
      rw (ancestor_root s k kp) at c)
      (λ f.
      record {
        level = p.level;
        node = ap parent_of p.node;
        low = not_root s k kp p.level p.low (λ y. eqb-false w.node 1 f (p.node ∙ y));
        covered = cov;
        owing = λ e. absurd (first≢second e);
      })

  pub bare : (w : Visit) → Refreshing s n hold k b w → Building s n hold k b w none
  bare w r = record { refreshing = r; hand = tt; mine = λ e q. absurd q }

  -- what follows an advance begins
  pub resumed : (w : Visit) (a : After) (v h : ℕ) → h < head_of n v → AfterAdvance s n hold k b w a v h → Carried s n hold k b (after_stage a w)
  unfolding resume
  resumed w Right v h l p = bare w p
  resumed w Ends v h l p = bare w p
  resumed w Again v h l p =
      record {
        level = p.level;
        node = p.node;
        low = p.low;
        covered = p.covered;
        owing = λ e. (p.limit, omega (arith, subst (λ (u : ℕ). h < head_of n u) p.same l, p.bound), p.owed);
      }
  resumed w Up v h l p = go_up w v h p l

-- ---- turns that change no memory
module _ (s : Shape) (m : Memory) (sound : Sound s m) (hold hold' : ℕ → Stage) {number : ℕ} (k : ℕ) (kp : k < processes s) (o : Operation) (eff : Effect s number k o m (hold k) m (hold' k))
    (others : (r : ℕ) → r ≢ k → hold' r ≡ hold r) (regs : Registers s m hold) (b : ℕ)
  where
    -- R1 of a first refresh: no block and no register is past the head
    free_owed : (j : ℕ) → suc j ≤ s.height → ((d : Side) (u h e : ℕ) → Holds d (hold' k) u h e → ⊥) → Owed s m hold' k b j (head_of m (ancestor s k (suc j)))
    free_owed j low empty =
        record {
          blocks = λ i l f. absurd (omega (arith, present_low (sound.node (ancestor s k (suc j)) (ancestor_node s k kp (suc j) low)) i f));
          ends = λ r rp h e q l. absurd (on r rp h e q l (ℕ_discrete r k));
        }
      where
        on : (r : ℕ) → r < processes s → (h e : ℕ) → Holds (side_at s k j) (hold' r) (ancestor s k (suc j)) h e → head_of m (ancestor s k (suc j)) < h → Dec (r ≡ k) → ⊥
        on r rp h e q l (yes x) = empty (side_at s k j) (ancestor s k (suc j)) h e (rw x at q)
        on r rp h e q l (no x) = omega (arith, regs.heads r rp (side_at s k j) (ancestor s k (suc j)) h e (rw (others r x) at q))

    pub started : (v : ℕ) (q : Refresh) → ((d : Side) (u h e : ℕ) → Holds d (hold' k) u h e → ⊥) → Starting s m hold k b v q
        → Building s m hold' k b (record { node = v; refresh = q; head = head_of m v }) none
    started v q empty p = bare s m sound hold' k kp b (record { node = v; refresh = q; head = head_of m v }) (on q p.owing)
      where
        first : 1 ≤ head_of m v
        first = rw p.node (sound.node (ancestor s k (suc p.level)) (ancestor_node s k kp (suc p.level) p.low)).head

        on : (x : Refresh) → (x ≡ Second → (t : ℕ) × (t < head_of m v) × Owed s m hold k b p.level t) → Refreshing s m hold' k b (record { node = v; refresh = x; head = head_of m v })
        on Second w =
            record {
              level = p.level;
              limit = (w refl).0;
              node = p.node;
              low = p.low;
              covered = p.covered;
              first = first;
              last = le_refl _;
              bound = (w refl).1;
              owed = owed_stable s m m sound hold hold' k kp o eff others regs k kp b p.level p.low p.covered (w refl).0 (w refl).2;
            }
        on First w =
            record {
              level = p.level;
              limit = head_of m v;
              node = p.node;
              low = p.low;
              covered = p.covered;
              first = first;
              last = le_refl _;
              bound = le_refl _;
              owed = rw p.node (free_owed p.level p.low empty);
            }

    abbrev keep : (w : Visit) (x : Hand) (r : Refreshing s m hold k b w) → HandOk s m w x → ((e : ℕ) → HasEnd (side_at s k r.level) x e → b ≤ reach s m k r.level e)
        → Building s m hold' k b w x
    keep = make_building s m m sound hold hold' k kp o eff others regs k kp b

    -- C1, C2: an end read from a child's head; on the own side it reaches the operation
    module _ (w : Visit) (r : Refreshing s m hold k b w) where
      inner_of : Inner s w.node
      inner_of = rw r.node (ancestor_inner s k kp r.level r.low)

      read_end : (d : Side) → EndOk s m w d (head_of m (child_of d w.node) - 1)
      read_end d =
          let c : NodeSound s m (child_of d w.node) = sound.node (child_of d w.node) (child_node s d w.node inner_of) in
          let q : NodeSound s m w.node = sound.node w.node (inner_node s w.node inner_of) in
          let l : end_of d (block s m w.node (w.head - 1)) < head_of m (child_of d w.node) =
          end_below sound d w.node inner_of (w.head - 1) (below_head q (w.head - 1) (omega (arith, r.first, r.last))) in
          record { rises = omega arith; below = omega (arith, c.head) }

      read_mine : (d : Side) → side_at s k r.level ≡ d → (e : ℕ) → head_of m (child_of d w.node) - 1 ≡ e → b ≤ reach s m k r.level e
      read_mine d de e q =
          let side = ap (λ (x : Side). child_of x (ancestor s k (suc r.level))) (sym de) in
          let z : child_of d w.node ≡ ancestor s k r.level = ap (λ (u : ℕ). child_of d u) r.node ∙ side ∙ child_at s k r.level in
          let y : head_of m (ancestor s k r.level) - 1 ≡ e = subst (λ (u : ℕ). head_of m u - 1 ≡ e) z q in
          rw (← y) r.covered

      pub read_left : (l : ℕ) → l ≡ head_of m (left_of w.node) - 1 → Building s m hold' k b w (one l)
      read_left l f = keep w (one l) r (subst (EndOk s m w onLeft) (sym f) (read_end onLeft)) (on (side_at s k r.level) refl)
        where
          on : (d : Side) → side_at s k r.level ≡ d → (e : ℕ) → HasEnd d (one l) e → b ≤ reach s m k r.level e
          on onLeft de e q = read_mine onLeft de e (sym f ∙ q)
          on onRight de e q = absurd q

    pub read_right : (w : Visit) (l r : ℕ) → r ≡ head_of m (right_of w.node) - 1 → Building s m hold k b w (one l) → Building s m hold' k b w (two l r uncounted)
    read_right w l r f p =
        keep w (two l r uncounted) p.refreshing (p.hand, subst (EndOk s m w onRight) (sym f) (read_end w p.refreshing onRight), tt) (on (side_at s k p.refreshing.level) refl)
      where
        on : (d : Side) → side_at s k p.refreshing.level ≡ d → (e : ℕ) → HasEnd d (two l r uncounted) e → b ≤ reach s m k p.refreshing.level e
        on onLeft de e q = p.mine e (rw de q)
        on onRight de e q = read_mine w p.refreshing onRight de e (sym f ∙ q)

    -- C3L, C3R
    pub counted : (w : Visit) (l r : ℕ) (x y : Tally) → (Tallied s m w l r x → Tallied s m w l r y) → Building s m hold k b w (two l r x) → Building s m hold' k b w (two l r y)
    counted w l r x y f p =
        keep w (two l r y) p.refreshing (p.hand.0, p.hand.1, f p.hand.2) (λ e q. p.mine e (ends_stay l r y x (side_at s k p.refreshing.level) e q))

    -- C3N
    module _ (w : Visit) (l r puts takes : ℕ) (p : Building s m hold k b w (two l r (counted_both puts takes))) where
      abbrev old : Block
      old = block s m w.node (w.head - 1)

      abbrev re : Refreshing s m hold k b w
      re = p.refreshing

      pub made_block : same_totals puts takes old ≡ false → Building s m hold' k b w (made (built w.node old l r puts takes))
      made_block e =
          keep w (made (built w.node old l r puts takes)) re (λ number. (
            built_follows s m sound w (inner_of w re) re.first re.last l r p.hand.0 p.hand.1 puts takes p.hand.2 number e,
            built_joins s m sound w (inner_of w re) re.first re.last l r p.hand.0 p.hand.1 puts takes p.hand.2 number,
          ))
          (λ x q. p.mine x (made_ends w.node old l r puts takes (counted_both puts takes) (side_at s k re.level) x q))

      -- equal totals: the block before has these ends, so it reaches the operation
      pub nothing_new : same_totals puts takes old ≡ true → Carried s m hold' k b (above_stage w.node)
      nothing_new e =
          go_up s m sound hold' k kp b w w.node (w.head - 1)
          (record {
            level = suc re.level;
            same = refl;
            node = re.node;
            low = re.low;
            got = rw (reach_suc s m k re.level (w.head - 1)) (on (side_at s k re.level) refl);
          })
          (omega (arith, re.first, re.last))
        where
          ends : (old.left ≡ l) × (old.right ≡ r)
          ends = same_ends s m sound w (inner_of w re) re.first re.last l r p.hand.0 p.hand.1 puts takes p.hand.2 0 e

          on : (d : Side) → side_at s k re.level ≡ d → b ≤ reach s m k re.level (end_of d (block s m (ancestor s k (suc re.level)) (w.head - 1)))
          on onLeft de = rw (← re.node) (p.mine old.left (rw de (sym ends.0)))
          on onRight de = rw (← re.node) (p.mine old.right (rw de (sym ends.1)))
