-- A step of any process keeps the invariant of supers, given what it leaves its own process with.
use Prim.Native.Nat.{ℕ, zero, suc, ◌≤◌, ◌<◌}
use native.Mathlib.Omega.{arith}
use native.Mathlib.Decide.{ℕ_discrete, dec_lt, dec_le}
use mathlib.Core.Path.{◌≡◌, ap, sym, ◌∙◌, subst}
use mathlib.Core.Logic.{◌≢◌, ◌⊎◌, inl, inr}
use Rattle.tree.specs.declared.Block.{Block}
use Rattle.tree.specs.Shape.{Shape, processes}
use Rattle.tree.specs.Memory.{Memory, head_of, block}
use Rattle.tree.specs.Sides.{Side, onLeft, onRight, child_of, end_of}
use Rattle.tree.specs.Clauses.Invariant.{Node, Inner, count, Present, zeros, Sound}
use Rattle.tree.proofs.Nodes.{parent_of_child, child_node, child_below, inner_node}
use Rattle.tree.proofs.Sound.{present_low, end_below}
use Rattle.tree.proofs.Growth.{Fresh, same_end}
use Rattle.steps.specs.declared.Operation.{Operation}
use Rattle.steps.specs.declared.Status.{Status}
use Rattle.steps.specs.declared.Status.TheVariants.{Idle, Busy}
use Rattle.steps.proofs.Stages.{Hand, none, one, two, made, Stage, resting, adding, advancing, starting, building, answering, stage, stage_of, HasEnd, Holds}
use Rattle.steps.proofs.Others.{InnerWrote, Effect}
use Rattle.superblocks.proofs.Marks.{super, Sight, own_sight, hand_sight, stage_sight, sight, visit_in, Covers, covers_rises, Seen, Asks, Raises, Mark, Near, SupersSet, MarksHold}
use Rattle.superblocks.proofs.Traces.{SuperLeft, HeadLeft, Traces}
use Rattle.superblocks.proofs.MachineFacts.{MachineFacts}

-- an end in hand is one that was seen
hand_seen : (m : Memory) (d : Side) (u i e : ℕ) (x : Hand) (y : Sight) → HasEnd d x e → Covers m d u i (hand_sight x d y) → i ≤ e
hand_seen m d u i e none y q p = absurd q
hand_seen m onLeft u i e (one l) y q p = omega arith
hand_seen m onRight u i e (one l) y q p = absurd q
hand_seen m onLeft u i e (two l r x) y q p = omega arith
hand_seen m onRight u i e (two l r x) y q p = omega arith
hand_seen m onLeft u i e (made n) y q p = omega arith
hand_seen m onRight u i e (made n) y q p = omega arith

held_seen : (m : Memory) (i z : ℕ) (x : Stage) (y : Sight) (d : Side) (u h e : ℕ) → Holds d x u h e
    → ((visit_in x).node ≡ u → z < (visit_in x).head → Covers m d u i (stage_sight x d y)) → z < h → i ≤ e
held_seen m i z resting y d u h e q p l = absurd q
held_seen m i z adding y d u h e q p l = absurd q
held_seen m i z (advancing w a v j) y d u h e q p l = absurd q
held_seen m i z (starting v t) y d u h e q p l = absurd q
held_seen m i z (building w x) y d u h e q p l = hand_seen m d u i e x y q.2 (p q.0 (omega (arith, q.1)))
held_seen m i z answering y d u h e q p l = absurd q

seen_held : (m : Memory) (i z : ℕ) (x : Status) (d : Side) (u h e : ℕ) → Holds d (stage_of x) u h e → Seen m d u i z x → z < h → i ≤ e
seen_held m i z Idle d u h e q p l = absurd q
seen_held m i z (Busy o n) d u h e q p l = held_seen m i z (stage n) (own_sight n d) d u h e q p l

-- ---- a step of process k: from memory m and statuses at to memory n and statuses at'
module _ (s : Shape) (m n : Memory) (at at' : ℕ → Status) (facts : MachineFacts s m at) (facts' : MachineFacts s n at') {number : ℕ} (k : ℕ) (kp : k < processes s) (o : Operation)
    (eff : Effect s number k o m (stage_of (at k)) n (stage_of (at' k))) (others : (r : ℕ) → r ≢ k → at' r ≡ at r) (tr : Traces s m (at k) n (at' k)) (old : MarksHold s m at)
  where
    abbrev sound : Sound s m
    sound = facts.sound

    head_rises : (v : ℕ) → head_of m v ≤ head_of n v
    head_rises v = on (tr.heads v)
      where
        on : HeadLeft s m n v → head_of m v ≤ head_of n v
        on (inl e) = omega arith
        on (inr e) = omega arith

    super_stays : (v i : ℕ) → 1 ≤ super s m v i → 1 ≤ super s n v i
    super_stays v i l = on (tr.supers v i)
      where
        on : SuperLeft s m (at k) n v i → 1 ≤ super s n v i
        on (inl e) = omega arith
        on (inr e) = absurd (omega (arith, e.0))

    -- ---- supers below the head
    set_keeps : SupersSet s n
    set_keeps v i nv v1 i1 l = on (tr.heads v)
      where
        on : HeadLeft s m n v → 1 ≤ super s n v i
        on (inl e) = super_stays v i (old.set v i nv v1 i1 (omega arith))
        on (inr e) = at_head (dec_lt i (head_of m v))
          where
            at_head : Dec (i < head_of m v) → 1 ≤ super s n v i
            at_head (yes g) = super_stays v i (old.set v i nv v1 i1 g)
            at_head (no g) = let f : head_of m v ≡ i = omega (arith, e.0) in super_stays v i (rw f at (e.1 v1))

    -- and where the head is about to be raised
    raised_keeps : (r : ℕ) → r < processes s → (v i : ℕ) → 1 < v → Raises v i (at' r) → 1 ≤ super s n v i
    raised_keeps r rp v i l q = on (ℕ_discrete r k)
      where
        on : Dec (r ≡ k) → 1 ≤ super s n v i
        on (yes e) = tr.comes_to_v3 v i l (subst (λ (j : ℕ). Raises v i (at' j)) e q)
        on (no e) = super_stays v i (old.raised r rp v i l (subst (Raises v i) (others r e) q))

    -- ---- marks
    -- a mark was one before, or the process has just read it
    mark_from : (v i z : ℕ) → Mark s n at' v i z → Mark s m at v i z ⊎ ((super s n v i ≡ 0) × Asks v i z (at' k))
    mark_from v i z (inl p) = on (tr.supers v i)
      where
        on : SuperLeft s m (at k) n v i → Mark s m at v i z ⊎ ((super s n v i ≡ 0) × Asks v i z (at' k))
        on (inl e) = inl (inl (sym e ∙ p.0, p.1))
        on (inr e) = inl (inr (e.0, (k, kp, subst (λ (y : ℕ). Asks v i y (at k)) p.0 e.1)))
    mark_from v i z (inr p) = on (ℕ_discrete p.1.0 k)
      where
        unset : SuperLeft s m (at k) n v i → super s m v i ≡ 0
        unset (inl e) = sym e ∙ p.0
        unset (inr e) = e.0

        on : Dec (p.1.0 ≡ k) → Mark s m at v i z ⊎ ((super s n v i ≡ 0) × Asks v i z (at' k))
        on (yes e) = inr (p.0, subst (λ (r : ℕ). Asks v i z (at' r)) e p.1.2)
        on (no e) = inl (inr (unset (tr.supers v i), (p.1.0, p.1.1, subst (Asks v i z) (others p.1.0 e) p.1.2)))

    -- a block with a mark is present
    mark_present : (v i z : ℕ) → Node s v → Mark s m at v i z → Present s m v i
    unfolding zeros
    mark_present v i z nv (inl p) = on (dec_le 1 (count (block s m v i)))
      where
        on : Dec (Present s m v i) → Present s m v i
        on (yes f) = f
        on (no f) = absurd (omega (arith, p.0, p.1, ap (λ (b : Block). b.superblock) ((sound.node v nv).clear i (omega arith))))
    mark_present v i z nv (inr p) = (facts.asked p.1.0 p.1.1 v i z p.1.2).1

    -- ---- what a mark says
    abbrev OwnSeen : Type 0
    OwnSeen = (d : Side) (u i z : ℕ) → Present s m (child_of d u) i → i ≤ head_of m (child_of d u) → Seen m d u i z (at k) → Seen n d u i z (at' k)

    seen_status : (d : Side) (u i z : ℕ) (x : Status) → Seen m d u i z x → Seen n d u i z x
    seen_status d u i z Idle p = tt
    seen_status d u i z (Busy o' x) p = λ e l. covers_rises m n d u i (head_rises (child_of d u)) (sight x d) (p e l)

    module _ (d : Side) (u : ℕ) (iu : Inner s u) (i z : ℕ) where
      abbrev v : ℕ
      v = child_of d u

      abbrev nu : Node s u
      nu = inner_node s u iu

      abbrev nv : Node s v
      nv = child_node s d u iu

      -- of one that was there: a new block of u stands at its head, and has ends that were seen
      near_stays : OwnSeen → Present s m v i → Near s m at d u i z → Near s n at' d u i z
      near_stays own here p =
          record { first = p.first; last = omega (arith, p.last, head_rises u); before = before; after = after; seen = λ r rp. seen r rp (ℕ_discrete r k) }
        where
          before : (q : ℕ) → Present s n u q → q < z → end_of d (block s n u q) < i
          before zero f l = absurd (omega (arith, (facts'.sound.node u nu).first))
          before (suc q) f l = on (eff.grows.fresh u q nu f)
            where
              on : Present s m u (suc q) ⊎ Fresh s m u q (block s n u (suc q)) → end_of d (block s n u (suc q)) < i
              on (inl g) = omega (arith, same_end d (eff.grows.stays u (suc q) nu (inr g)), p.before (suc q) g l)
              on (inr g) = absurd (omega (arith, g.place, p.last))

          after : (q : ℕ) → Present s n u q → z < q → i ≤ end_of d (block s n u q)
          after zero f l = absurd (omega arith)
          after (suc q) f l = on (eff.inners u q iu f)
            where
              on : InnerWrote s m (stage_of (at k)) n u q → i ≤ end_of d (block s n u (suc q))
              on (inl g) = omega (arith, same_end d (eff.grows.stays u (suc q) nu (inr g)), p.after (suc q) g l)
              on (inr g) = seen_held m i z (at k) d u (suc q) _ (g d) (p.seen k kp) l

          seen : (r : ℕ) → r < processes s → Dec (r ≡ k) → Seen n d u i z (at' r)
          seen r rp (yes e) = rw e (own d u i z here (present_low (sound.node v nv) i here) (p.seen k kp))
          seen r rp (no e) = rw (others r e) (seen_status d u i z (at r) (p.seen r rp))

      -- of one that was just read: the block is at its node's head, since its super is not set, and nothing of u is
      -- past u's head
      near_new : super s n v i ≡ 0 → Asks v i z (at' k) → Near s n at' d u i z
      near_new unset q =
          record {
            first = omega (arith, read, (facts'.sound.node u nu).head);
            last = omega (arith, read);
            before = λ b f l. omega (arith, at_head, end_below facts'.sound d u iu b (inr f));
            after = λ b f l. absurd (omega (arith, read, present_low (facts'.sound.node u nu) b f));
            seen = λ r rp. rw read (facts'.low r rp d u i);
          }
        where
          read : z ≡ head_of n u
          read = tr.comes_to_v2 v i z q ∙ ap (head_of n) (parent_of_child d u)

          here : Present s n v i
          here = (facts'.asked k kp v i z q).1

          some : 1 ≤ i
          some = on (ℕ_discrete i 0)
            where
              on : Dec (i ≡ 0) → 1 ≤ i
              on (yes e) = let f : Present s n v 0 = rw e at here in absurd (omega (arith, (facts'.sound.node v nv).first))
              on (no e) = omega arith

          at_head : head_of n v ≡ i
          at_head = on (dec_lt i (head_of n v))
            where
              on : Dec (i < head_of n v) → head_of n v ≡ i
              on (yes l) = absurd (omega (arith, unset, set_keeps v i nv (child_below s d u iu) some l))
              on (no l) = omega (arith, present_low (facts'.sound.node v nv) i here)

      near_keeps : OwnSeen → Mark s n at' v i z → Near s n at' d u i z
      near_keeps own mark = on (mark_from v i z mark)
        where
          on : Mark s m at v i z ⊎ ((super s n v i ≡ 0) × Asks v i z (at' k)) → Near s n at' d u i z
          on (inl p) = near_stays own (mark_present v i z nv p) (old.near d u iu i z p)
          on (inr p) = near_new p.0 p.1

    pub marks_keep : OwnSeen → MarksHold s n at'
    marks_keep own = record { set = set_keeps; raised = raised_keeps; near = λ d u iu i z mark. near_keeps d u iu i z own mark }
