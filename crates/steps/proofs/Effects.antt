-- The effect of each turn: how the memory grows, who wrote what is new, and which ends the process then holds.
use Prim.Native.Nat.{ℕ, suc, ◌+◌, ◌-◌, ◌≤◌, ◌<◌}
use native.Mathlib.Omega.{arith}
use native.Mathlib.Decide.{dec_lt}
use mathlib.Core.Path.{◌≡◌, refl, sym, ◌∙◌}
use mathlib.Core.Logic.{◌⊎◌, inl, inr}
use mathlib.Core.Bool.{true}
use Rattle.tree.specs.declared.Block.{Block}
use Rattle.tree.specs.declared.Kind.{Kind}
use Rattle.tree.specs.declared.Kind.TheVariants.{Puts, Takes}
use Rattle.tree.specs.Shape.{Shape, processes, leaf_of, left_of, right_of, last_place}
use Rattle.tree.specs.Blocks.{absent}
use Rattle.tree.specs.Memory.{Memory, head_of, block, write, with_super, set_super, raise}
use Rattle.tree.specs.Order.{total}
use Rattle.tree.specs.Sides.{Side, onLeft, onRight, child_of, end_of}
use Rattle.tree.specs.Clauses.Invariant.{Node, Inner, count, Present, Written, Sound, Follows, Sized}
use Rattle.tree.proofs.Nodes.{child_node, inner_node, leaf_node, leaf_not_inner, leaf_eq}
use Rattle.tree.proofs.Ancestors.{ancestor_inner}
use Rattle.tree.proofs.Heights.{leaf_places, node_places}
use Rattle.tree.proofs.Presence.{absent_count}
use Rattle.tree.proofs.Sound.{below_head, leaf_count}
use Rattle.tree.proofs.Growth.{Same, Fresh, same_refl, grows_refl}
use Rattle.tree.proofs.Writes.{write_cases, raise_cases}
use Rattle.steps.specs.declared.Operation.{Operation}
use Rattle.steps.specs.declared.Operation.TheVariants.{Put, Take}
use Rattle.steps.specs.declared.Visit.{Visit}
use Rattle.steps.specs.declared.After.{After}
use Rattle.steps.specs.declared.Built.{Built}
use Rattle.steps.specs.Rules.{plus_operation, built, block_of}
use Rattle.steps.proofs.Stages.{Tally, uncounted, counted_both, Hand, none, one, two, made, Stage, adding, advancing, building, HasEnd, Holds, ends_stay, above_empty, after_empty}
use Rattle.steps.proofs.Turns.{Turn, rests, adds, supers, raises, starts, assists, ends_left, ends_right, counts, makes, finds, writes, meets, finishes}
use Rattle.steps.proofs.Progress.{LeafOpen, OwnLeaf, Building, Carried}
use Rattle.steps.proofs.Others.{LeafWrote, InnerWrote, Effect}

-- a block that has been given its super is the same but for it
same_super : (b : Block) (x : ℕ) → Same (with_super b x) b
unfolding with_super
same_super b x = record { puts = refl; takes = refl; left = refl; right = refl; size = refl }

-- what an operation adds to a leaf
plus_rises : (number : ℕ) (o : Operation) (b : Block) (κ : Kind) → total κ b ≤ total κ (plus_operation number o b)
unfolding plus_operation total
plus_rises number (Put x) b Puts = omega arith
plus_rises number (Put x) b Takes = omega arith
plus_rises number Take b Puts = omega arith
plus_rises number Take b Takes = omega arith

pub plus_one : (number : ℕ) (o : Operation) (b : Block) → count (plus_operation number o b) ≡ count b + 1
unfolding plus_operation
plus_one number (Put x) b = omega arith
plus_one number Take b = omega arith

plus_follows : (number : ℕ) (o : Operation) (b : Block) → Follows b (plus_operation number o b)
plus_follows number o b = record { rises = plus_rises number o b; more = omega (arith, plus_one number o b) }

-- ends of the block that was made are those it was made of
pub made_ends : (v : ℕ) (old : Block) (l r puts takes : ℕ) (x : Tally) (d : Side) (e : ℕ) → HasEnd d (made (built v old l r puts takes)) e → HasEnd d (two l r x) e
unfolding built
made_ends v old l r puts takes x onLeft e p = p
made_ends v old l r puts takes x onRight e p = p

pub made_has : (number : ℕ) (n : Built) (d : Side) → HasEnd d (made n) (end_of d (block_of number n))
unfolding block_of
made_has number n onLeft = refl
made_has number n onRight = refl

module _ (s : Shape) (number k : ℕ) (o : Operation) (m : Memory) where
  -- a turn that changes no memory
  pub still : {x y : Stage} → ((d : Side) (u h e : ℕ) → Holds d y u h e → Holds d x u h e ⊎ (e ≡ head_of m (child_of d u) - 1)) → Effect s number k o m x m y
  still gains =
      record {
        grows = grows_refl s m;
        leaves = λ r i f. inl f;
        inners = λ u i iu f. inl f;
        gains = gains;
      }

  -- a head that is raised past a present block
  raising : (w : Visit) (a : After) (v h : ℕ) {y : Stage} → Present s m v h → ((d : Side) (u h e : ℕ) → Holds d y u h e → ⊥) → Effect s number k o m (advancing w a v h) (raise m v h) y
  unfolding raise block
  raising w a v h here empty =
      record {
        grows =
            record {
              raised =
                  λ u nu.
                  raise_cases m v h (λ (z : ℕ). (z ≡ head_of m u) ⊎ ((z ≡ head_of m u + 1) × Present s m u (head_of m u))) u
                  (λ e f. inr (omega arith, rw (f, e) here)) (inl refl);
              stays = λ u i nu p. same_refl (block s m u i);
              absents = λ u i nu z. refl;
              fresh = λ u i nu f. inl f;
            };
        leaves = λ r i f. inl f;
        inners = λ u i iu f. inl f;
        gains = λ d u g e p. absurd (empty d u g e p);
      }

  module _ (sized : Sized s m) where
    -- a super that is set in a present block
    super_same : (v h x : ℕ) → Node s v → (u i : ℕ) → Same (block s (write s m v h (with_super (block s m v h) x)) u i) (block s m u i)
    super_same v h x nv u i =
        write_cases s m v h (with_super (block s m v h) x) sized nv (λ (c : Block). Same c (block s m u i)) u i
        (λ e f. rw (e, f) (same_super (block s m v h) x)) (same_refl (block s m u i))

    super_absents : (v h x : ℕ) → Node s v → Present s m v h → (u i : ℕ) → count (block s (write s m v h (with_super (block s m v h) x)) u i) ≡ 0
        → block s (write s m v h (with_super (block s m v h) x)) u i ≡ block s m u i
    super_absents v h x nv here u i =
        write_cases s m v h (with_super (block s m v h) x) sized nv (λ (c : Block). count c ≡ 0 → c ≡ block s m u i) u i
        (λ e f z. absurd (omega (arith, same_super (block s m v h) x))) (λ z. refl)

    setting : (w : Visit) (a : After) (v h x : ℕ) → Node s v → Present s m v h → Effect s number k o m (advancing w a v h) (set_super s m v h x) (advancing w a v h)
    unfolding set_super write head_of
    setting w a v h x nv here =
        record {
          grows =
              record {
                raised = λ u nu. inl refl;
                stays = λ u i nu p. super_same v h x nv u i;
                absents = λ u i nu z. super_absents v h x nv here u i z;
                fresh = λ u i nu f. inl (omega (arith, super_same v h x nv u (suc i)));
              };
          leaves = λ r i f. inl (omega (arith, super_same v h x nv (leaf_of s r) (suc i)));
          inners = λ u i iu f. inl (omega (arith, super_same v h x nv u (suc i)));
          gains = λ d u g e p. absurd p;
        }

    -- a new block c at place h of node v
    module _ (x y : Stage) (v h : ℕ) (c : Block) (nv : Node s v) (i : ℕ) (hi : h ≡ suc i) (none_here : count (block s m v h) ≡ 0) (new : Fresh s m v i c)
        (held : Inner s v → (d : Side) → Holds d x v h (end_of d c))
        (added : (r : ℕ) → v ≡ leaf_of s r → (r ≡ k) × (x ≡ adding) × (suc i ≡ head_of m (leaf_of s k)) × (c ≡ plus_operation number o (block s m (leaf_of s k) i)))
        (empty : (d : Side) (u h e : ℕ) → Holds d y u h e → ⊥)
      where
        abbrev n : Memory
        n = write s m v h c

        fresh_stays : (u j : ℕ) → Node s u → Written s m u j → Same (block s n u j) (block s m u j)
        fresh_stays u j nu p = write_cases s m v h c sized nv (λ (z : Block). Same z (block s m u j)) u j (λ e f. absurd (no e f p)) (same_refl (block s m u j))
          where
            no : u ≡ v → j ≡ h → Written s m u j → ⊥
            no e f (inl z) = omega arith
            no e f (inr z) = let q : Present s m v h = rw (e, f) at z in omega arith

        fresh_absents : (u j : ℕ) → Node s u → count (block s n u j) ≡ 0 → block s n u j ≡ block s m u j
        fresh_absents u j nu =
            write_cases s m v h c sized nv (λ (z : Block). count z ≡ 0 → z ≡ block s m u j) u j (λ e f z. absurd (omega (arith, new.follows.more))) (λ z. refl)

        fresh_new : (u j : ℕ) → Node s u → Present s n u (suc j) → Present s m u (suc j) ⊎ Fresh s m u j (block s n u (suc j))
        fresh_new u j nu =
            write_cases s m v h c sized nv (λ (z : Block). 1 ≤ count z → Present s m u (suc j) ⊎ Fresh s m u j z) u (suc j)
            (λ e f l. let z : j ≡ i = omega arith in inr (rw (e, z) new)) (λ l. inl l)

        fresh_inners : (u j : ℕ) → Inner s u → Present s n u (suc j) → InnerWrote s m x n u j
        fresh_inners u j iu =
            write_cases s m v h c sized nv (λ (z : Block). 1 ≤ count z → Present s m u (suc j) ⊎ ((d : Side) → Holds d x u (suc j) (end_of d z))) u (suc j)
            (λ e f l. inr (rw (e, f) (held (rw e at iu)))) (λ l. inl l)

        fresh_leaves : (r j : ℕ) → Present s n (leaf_of s r) (suc j) → LeafWrote s number k o m x n r j
        fresh_leaves r j =
            write_cases s m v h c sized nv
            (λ (z : Block). 1 ≤ count z → Present s m (leaf_of s r) (suc j) ⊎ ((r ≡ k) × (x ≡ adding) × (suc j ≡ head_of m (leaf_of s k)) × (z ≡ plus_operation number o (block s m (leaf_of s k) j))))
            (leaf_of s r) (suc j)
            (λ e f l. let z : j ≡ i = omega arith in inr (rw z (added r (sym e)))) (λ l. inl l)

        writing : Effect s number k o m x n y
        unfolding write head_of
        writing =
            record {
              grows = record { raised = λ u nu. inl refl; stays = fresh_stays; absents = fresh_absents; fresh = fresh_new };
              leaves = fresh_leaves;
              inners = fresh_inners;
              gains = λ d u g e p. absurd (empty d u g e p);
            }

  module _ (sized : Sized s m) (sound : Sound s m) (kp : k < processes s) (b : ℕ) (bm : b ≤ s.most) where
    -- A
    abbrev leaf : ℕ
    leaf = leaf_of s k

    abbrev last : Block
    last = block s m leaf (head_of m leaf - 1)

    add_fresh : LeafOpen s m k b → Fresh s m leaf (head_of m leaf - 1) (plus_operation number o last)
    add_fresh lo =
        let q = sound.node leaf (leaf_node s k kp) in
        record {
          place = omega (arith, q.head);
          within =
              omega (
                arith,
                plus_one number o last,
                leaf_count sound k kp (head_of m leaf - 1) (below_head q (head_of m leaf - 1) (omega (arith, q.head))),
                leaf_places s k kp,
                lo.head,
                lo.some,
              );
          follows = plus_follows number o last;
          joins = λ iv. absurd (leaf_not_inner s k iv);
          adds = λ j jp e. record { one = plus_one number o last };
        }

    -- C4, where the place is absent
    module _ (hold : ℕ → Stage) (w : Visit) (n : Built) (p : Building s m hold k b w (made n)) (iv : Inner s w.node) (free : absent (block s m w.node w.head) ≡ true) where
      pub head_here : head_of m w.node ≡ w.head
      head_here = on (dec_lt w.head (head_of m w.node))
        where
          on : Dec (w.head < head_of m w.node) → head_of m w.node ≡ w.head
          on (yes l) =
              absurd (omega (arith, absent_count (block s m w.node w.head) free, (sound.node w.node (inner_node s w.node iv)).filled w.head p.refreshing.first l))
          on (no l) = omega (arith, p.refreshing.last)

      build_within : ((κ : Kind)
          → total κ (block_of number n) ≡ total κ (block s m (child_of onLeft w.node) (block_of number n).left) + total κ (block s m (child_of onRight w.node) (block_of number n).right))
          → count (block_of number n) ≤ last_place s w.node
      unfolding total
      build_within sums =
          let x = sums Puts in
          let y = sums Takes in
          omega (
            arith,
            node_places s w.node iv.first iv.last,
            (sound.node (child_of onLeft w.node) (child_node s onLeft w.node iv)).within (block_of number n).left,
            (sound.node (child_of onRight w.node) (child_node s onRight w.node iv)).within (block_of number n).right,
          )

      pub build_fresh : Fresh s m w.node (w.head - 1) (block_of number n)
      build_fresh =
          record {
            place = omega (arith, head_here, p.refreshing.first);
            within = build_within (p.hand number).1.sums;
            follows = (p.hand number).0;
            joins = λ j. (p.hand number).1;
            adds = λ j jp e. absurd (leaf_not_inner s j (rw e at iv));
          }

    -- every turn
    module _ (hold : ℕ → Stage) where
      inner_of : (w : Visit) (x : Hand) → Building s m hold k b w x → Inner s w.node
      inner_of w x p = rw p.refreshing.node (ancestor_inner s k kp p.refreshing.level p.refreshing.low)

      -- C1 and C2 gain the end that they read
      gains_left : (w : Visit) (l : ℕ) → l ≡ head_of m (left_of w.node) - 1 → (d : Side) (u h e : ℕ) → Holds d (building w (one l)) u h e
          → Holds d (building w none) u h e ⊎ (e ≡ head_of m (child_of d u) - 1)
      gains_left w l f onLeft u h e q = inr (rw (← q.0) (sym q.2 ∙ f))
      gains_left w l f onRight u h e q = absurd q.2

      gains_right : (w : Visit) (l r : ℕ) → r ≡ head_of m (right_of w.node) - 1 → (d : Side) (u h e : ℕ) → Holds d (building w (two l r uncounted)) u h e
          → Holds d (building w (one l)) u h e ⊎ (e ≡ head_of m (child_of d u) - 1)
      gains_right w l r f onLeft u h e q = inl q
      gains_right w l r f onRight u h e q = inr (rw (← q.0) (sym q.2 ∙ f))

      pub effect : {x : Stage} {n : Memory} {y : Stage} → Turn s number k o m x n y → OwnLeaf s m k b x → Carried s m hold k b x → Effect s number k o m x n y
      effect (rests x) own p = still (λ d u h e q. inl q)
      effect adds own p =
          writing sized adding _ leaf (head_of m leaf) (plus_operation number o last) (leaf_node s k kp) (head_of m leaf - 1) (omega (arith, own.some, own.head))
          (own.ends (head_of m leaf) (omega (arith, own.some, own.head))) (add_fresh own) (λ iv. absurd (leaf_not_inner s k iv))
          (λ r e. (leaf_eq s r k (sym e), refl, omega (arith, own.some, own.head), refl)) (λ d u h e q. q)
      effect (supers w a v h z) own p = setting sized w a v h z p.node p.present
      effect (raises w a v h) own p = raising w a v h p.present (λ d u g e q. after_empty a w d u g e q)
      effect (starts v q) own p = still (λ d u h e z. absurd z.2)
      effect (assists w d c f) own p = still (λ d' u h e q. absurd q)
      effect (ends_left w l f) own p = still (gains_left w l f)
      effect (ends_right w l r f) own p = still (gains_right w l r f)
      effect (counts w l r x y f) own p = still (λ d u h e q. inl (q.0, q.1, ends_stay l r y x d e q.2))
      effect (makes w l r puts takes f) own p = still (λ d u h e q. inl (q.0, q.1, made_ends w.node (block s m w.node (w.head - 1)) l r puts takes (counted_both puts takes) d e q.2))
      effect (finds w l r puts takes f) own p = still (λ d u h e q. absurd (above_empty w.node d u h e q))
      effect (writes w c f) own p =
          writing sized (building w (made c)) _ w.node w.head (block_of number c) (inner_node s w.node (inner_of w (made c) p)) (w.head - 1) (omega (arith, p.refreshing.first))
          (absent_count (block s m w.node w.head) f) (build_fresh hold w c p (inner_of w (made c) p) f) (λ iv d. (refl, refl, made_has number c d))
          (λ r e. absurd (leaf_not_inner s r (rw e at (inner_of w (made c) p)))) (λ d u h e q. q)
      effect (meets w c f) own p = still (λ d u h e q. absurd q)
      effect finishes own p = still (λ d u h e q. absurd q)
