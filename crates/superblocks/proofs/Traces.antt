-- What each named step leaves of supers and heads, and where it leads: V2 alone sets a super and V3 alone raises a
-- head; V1 alone leads to V2, and below the root V2 alone to V3.
use Prim.Native.Nat.{ℕ, ◌+◌, ◌-◌, ◌≤◌, ◌<◌}
use native.Mathlib.Omega.{arith}
use mathlib.Core.Path.{◌≡◌, refl, ap, sym, ◌∙◌, subst}
use mathlib.Core.Logic.{◌⊎◌, inl, inr}
use mathlib.Core.Bool.{Bool, true, false}
use lib.Dec.{eqb}
use borrow.Author.Tests.{eqb-true, eqb-false}
use Rattle.base.proofs.Cases.{both, cases}
use Rattle.tree.specs.declared.Block.{Block}
use Rattle.tree.specs.Shape.{Shape, processes, root, leaf_of, parent_of, left_of, right_of, last_place}
use Rattle.tree.specs.Blocks.{absent}
use Rattle.tree.specs.Memory.{Memory, head_of, block, write, write_if_absent, with_super, set_super, raise}
use Rattle.tree.specs.Clauses.Invariant.{Node, count, Present, Sized, zeros, Sound, NodeSound}
use Rattle.tree.proofs.Nodes.{inner_node, leaf_node}
use Rattle.tree.proofs.Presence.{absent_count}
use Rattle.tree.proofs.Writes.{write_here, write_cases, raise_cases}
use Rattle.tree.proofs.Sound.{place_count}
use Rattle.steps.specs.declared.Operation.{Operation}
use Rattle.steps.specs.declared.Operation.TheVariants.{Put, Take}
use Rattle.steps.specs.declared.Visit.{Visit}
use Rattle.steps.specs.declared.After.{After}
use Rattle.steps.specs.declared.After.TheVariants.{Right, Ends, Again, Up}
use Rattle.steps.specs.declared.Step.{Step}
use Rattle.steps.specs.declared.Step.TheVariants.{A, V1, V2, V3, R1, R2, R3, R4, R5, C1, C2, C3L, C3R, C3N, C4, Q}
use Rattle.steps.specs.declared.Status.{Status}
use Rattle.steps.specs.declared.Status.TheVariants.{Busy}
use Rattle.steps.specs.Rules.{above, resume, advance, after_refresh, help, plus_operation, same_totals, block_of, go_telling, go, step}
use Rattle.steps.proofs.Stages.{Stage, stage}
use Rattle.steps.proofs.Progress.{OwnLeaf, Carried}
use Rattle.steps.proofs.Invariant.{step_nodes}
use Rattle.superblocks.proofs.Marks.{super, Asks, asks, Raises, raises}

-- a super after a step: it is as it was, or it was not set and the process asked for it
abbrev pub SuperLeft : Shape → Memory → Status → Memory → ℕ → ℕ → Type 0
SuperLeft s m x n v i = (super s n v i ≡ super s m v i) ⊎ ((super s m v i ≡ 0) × Asks v i (super s n v i) x)

-- a head after a step: it is as it was, or one more, past a block whose super is set
abbrev pub HeadLeft : Shape → Memory → Memory → ℕ → Type 0
HeadLeft s m n v = (head_of n v ≡ head_of m v) ⊎ ((head_of n v ≡ head_of m v + 1) × (1 < v → 1 ≤ super s m v (head_of m v)))

-- from memory m and status x to memory n and status y
pub record Traces (s : Shape) (m : Memory) (x : Status) (n : Memory) (y : Status) : Type 0 where
  pub supers : (v i : ℕ) → SuperLeft s m x n v i
  pub heads : (v : ℕ) → HeadLeft s m n v
  pub comes_to_v2 : (v i z : ℕ) → Asks v i z y → z ≡ head_of n (parent_of v)
  pub comes_to_v3 : (v i : ℕ) → 1 < v → Raises v i y → 1 ≤ super s n v i

-- ---- V2: a super that is set stays, and one that is not becomes what is asked for
abbrev KeptOrSet : Block → ℕ → Type 0
KeptOrSet b x = (((with_super b x).superblock ≡ b.superblock) × (1 ≤ b.superblock)) ⊎ ((b.superblock ≡ 0) × ((with_super b x).superblock ≡ x))

kept_or_set : (b : Block) (x : ℕ) → KeptOrSet b x
unfolding with_super
kept_or_set b x =
    cases (λ (y : ℕ). ((y ≡ b.superblock) × (1 ≤ b.superblock)) ⊎ ((b.superblock ≡ 0) × (y ≡ x))) (eqb b.superblock 0)
    (λ e. inr (eqb-true b.superblock 0 e, refl)) (λ e. let ne = eqb-false b.superblock 0 e in inl (refl, omega arith))

-- ---- steps that are not V2, nor V3 below the root
asks_v2 : (o : Operation) (a : After) (w : Visit) (u h x v i z : ℕ) → Asks v i z (Busy o (V2 a w u h x)) → (u ≡ v) × (x ≡ z)
asks_v2 o a w u h x v i z (asks p q r) = (refl, refl)

raises_v3 : (o : Operation) (a : After) (w : Visit) (u h v i : ℕ) → Raises v i (Busy o (V3 a w u h)) → (u ≡ v) × (h ≡ i)
raises_v3 o a w u h v i (raises p q r) = (refl, refl)

module _ (o : Operation) where
  abbrev Quiet : Step → Type 0
  Quiet n = ((v i z : ℕ) → Asks v i z (Busy o n) → ⊥) × ((v i : ℕ) → 1 < v → Raises v i (Busy o n) → ⊥)

  above_quiet : (u : ℕ) → Quiet (above u)
  unfolding above
  above_quiet u = both Quiet (eqb u root) (λ v i z. elim [ ], λ v i l. elim [ ]) (λ v i z. elim [ ], λ v i l. elim [ ])

  resume_quiet : (a : After) (w : Visit) → Quiet (resume a w)
  unfolding resume
  resume_quiet Right w = (λ v i z. elim [ ], λ v i l. elim [ ])
  resume_quiet Ends w = (λ v i z. elim [ ], λ v i l. elim [ ])
  resume_quiet Again w = (λ v i z. elim [ ], λ v i l. elim [ ])
  resume_quiet Up w = above_quiet w.node

  advance_quiet : (w : Visit) (a : After) (u h : ℕ) → Quiet (advance w a u h)
  unfolding advance root
  advance_quiet w a u h =
      cases Quiet (eqb u 1) (λ e. (λ v i z. elim [ ], λ v i l q. omega (arith, eqb-true u 1 e, (raises_v3 o a w u h v i q).0))) (λ e. (λ v i z. elim [ ], λ v i l. elim [ ]))

  help_quiet : (s : Shape) (m : Memory) (w : Visit) (a : After) (u c : ℕ) → Quiet (help s m w a u c)
  unfolding help
  help_quiet s m w a u c = both Quiet (absent (block s m u c)) (resume_quiet a w) (advance_quiet w a u c)

module _ (s : Shape) (m : Memory) where
  -- a step that leads to such a one; and one that changes no memory besides
  quiet_after : (x : Status) (n : Memory) (o : Operation) (y : Step) → Quiet o y → ((v i : ℕ) → SuperLeft s m x n v i) → ((v : ℕ) → HeadLeft s m n v)
      → Traces s m x n (Busy o y)
  quiet_after x n o y p supers heads =
      record { supers = supers; heads = heads; comes_to_v2 = λ v i z q. absurd (p.0 v i z q); comes_to_v3 = λ v i l q. absurd (p.1 v i l q) }

  pub quiet : (x : Status) (o : Operation) (y : Step) → Quiet o y → Traces s m x m (Busy o y)
  quiet x o y p = quiet_after x m o y p (λ v i. inl refl) (λ v. inl refl)

  -- ---- steps that write
  module _ (sized : Sized s m) where
    -- a new block, with super 0, where none was
    fresh_super : Sound s m → (v h : ℕ) (c : Block) → Node s v → count (block s m v h) ≡ 0 → c.superblock ≡ 0 → (u i : ℕ) → super s (write s m v h c) u i ≡ super s m u i
    unfolding zeros
    fresh_super sound v h c nv none z u i =
        write_cases s m v h c sized nv (λ (b : Block). b.superblock ≡ super s m u i) u i
        (λ e f. z ∙ sym (rw (e, f) (ap (λ (b : Block). b.superblock) ((sound.node v nv).clear h none)))) refl

    set_super_lem : (o : Operation) (a : After) (w : Visit) (v h x : ℕ) → Node s v → (u i : ℕ) → SuperLeft s m (Busy o (V2 a w v h x)) (set_super s m v h x) u i
    unfolding set_super
    set_super_lem o a w v h x nv u i =
        write_cases s m v h (with_super (block s m v h) x) sized nv
        (λ (b : Block). (b.superblock ≡ super s m u i) ⊎ ((super s m u i ≡ 0) × Asks u i b.superblock (Busy o (V2 a w v h x)))) u i
        (λ e f. rw (e, f) (on (kept_or_set (block s m v h) x))) (inl refl)
      where
        on : KeptOrSet (block s m v h) x
            → ((with_super (block s m v h) x).superblock ≡ super s m v h) ⊎ ((super s m v h ≡ 0) × Asks v h (with_super (block s m v h) x).superblock (Busy o (V2 a w v h x)))
        on (inl p) = inl p.0
        on (inr p) = inr (p.0, subst (λ (y : ℕ). Asks v h y (Busy o (V2 a w v h x))) (sym p.1) (asks o a w))

    write_super : Sound s m → (v h : ℕ) (c : Block) → Node s v → c.superblock ≡ 0 → (x : Status) (u i : ℕ) → SuperLeft s m x (write_if_absent s m v h c) u i
    unfolding write_if_absent write
    write_super sound v h c nv z x u i = on (absent (block s m v h)) refl
      where
        on : (b : Bool) → absent (block s m v h) ≡ b → SuperLeft s m x (write_if_absent s m v h c) u i
        on true e = rw e (inl (fresh_super sound v h c nv (absent_count (block s m v h) e) z u i))
        on false e = rw e (inl refl)

  raised_super : (v h u i : ℕ) → super s (raise m v h) u i ≡ super s m u i
  unfolding raise block
  raised_super v h u i = refl

  raised_head : (v h : ℕ) → (1 < v → 1 ≤ super s m v h) → (u : ℕ) → HeadLeft s m (raise m v h) u
  raised_head v h known u =
      raise_cases m v h (λ (x : ℕ). (x ≡ head_of m u) ⊎ ((x ≡ head_of m u + 1) × (1 < u → 1 ≤ super s m u (head_of m u)))) u
      (λ e f. inr (omega arith, rw (e, rw e at f) known)) (inl refl)

-- ---- after V2 super is set, if what was to be set is not 0
module _ (s : Shape) (m : Memory) (sized : Sized s m) (v h x : ℕ) (nv : Node s v) (sound : NodeSound s m v) (here : Present s m v h) where
  place_within : h ≤ last_place s v
  place_within = omega (arith, place_count sound h (inr here), sound.within h)

  super_set : (super s m v h ≡ 0 → 1 ≤ x) → 1 ≤ super s (set_super s m v h x) v h
  unfolding set_super
  super_set some =
      subst (λ (b : Block). 1 ≤ b.superblock) (sym (write_here s m v h (with_super (block s m v h) x) sized nv place_within)) (on (kept_or_set (block s m v h) x))
    where
      on : KeptOrSet (block s m v h) x → 1 ≤ (with_super (block s m v h) x).superblock
      on (inl p) = omega (arith, p.0, p.1)
      on (inr p) = omega (arith, p.1, some p.0)

-- ---- every step
plus_super : (number : ℕ) (o : Operation) (b : Block) → (plus_operation number o b).superblock ≡ 0
unfolding plus_operation
plus_super number (Put x) b = refl
plus_super number Take b = refl

module _ (s : Shape) (m : Memory) (sized : Sized s m) (sound : Sound s m) (hold : ℕ → Stage) (number k : ℕ) (kp : k < processes s) (o : Operation) (b : ℕ) where
  pub traces : (n : Step) → OwnLeaf s m k b (stage n) → Carried s m hold k b (stage n) → ((v i z : ℕ) → Asks v i z (Busy o n) → 1 < v → super s m v i ≡ 0 → 1 ≤ z)
      → ((v i : ℕ) → 1 < v → Raises v i (Busy o n) → 1 ≤ super s m v i) → Traces s m (Busy o n) (step s number k o m n).memory (step s number k o m n).next
  unfolding step go_telling go write write_if_absent set_super raise head_of block_of
  traces A own carried some set =
      let h = head_of m (leaf_of s k) in
      let none = own.ends h (omega (arith, own.some, own.head)) in
      quiet_after s m _ _ o _ (advance_quiet o _ Up (leaf_of s k) h)
      (λ v i. inl (fresh_super s m sized sound (leaf_of s k) h _ (leaf_node s k kp) none (plus_super number o _) v i)) (λ v. inl refl)
  traces (V1 a w u h) own carried some set =
      record {
        supers = λ v i. inl refl;
        heads = λ v. inl refl;
        comes_to_v2 = λ v i z q. let e = asks_v2 o a w u h (head_of m (parent_of u)) v i z q in rw (← e.0, ← e.1) refl;
        comes_to_v3 = λ v i l. elim [ ];
      }
  traces (V2 a w u h x) own carried some set =
      record {
        supers = set_super_lem s m sized o a w u h x carried.node;
        heads = λ v. inl refl;
        comes_to_v2 = λ v i z. elim [ ];
        comes_to_v3 =
            λ v i l q.
            let e = raises_v3 o a w u h v i q in
            rw (← e.0, ← e.1) (super_set s m sized u h x carried.node (sound.node u carried.node) carried.present (λ f. some u h x (asks o a w) (omega (arith, e.0)) f));
      }
  traces (V3 a w u h) own carried some set =
      quiet_after s m _ _ o _ (resume_quiet o a w) (λ v i. inl (raised_super s m u h v i)) (raised_head s m u h (λ l. set u h l (raises o a w)))
  traces (R1 q u) own carried some set = quiet s m _ o _ (λ v i z. elim [ ], λ v i l. elim [ ])
  traces (R2 w) own carried some set = quiet s m _ o _ (λ v i z. elim [ ], λ v i l. elim [ ])
  traces (R3 w c) own carried some set = quiet s m _ o _ (help_quiet o s m w Right (left_of w.node) c)
  traces (R4 w) own carried some set = quiet s m _ o _ (λ v i z. elim [ ], λ v i l. elim [ ])
  traces (R5 w c) own carried some set = quiet s m _ o _ (help_quiet o s m w Ends (right_of w.node) c)
  traces (C1 w) own carried some set = quiet s m _ o _ (λ v i z. elim [ ], λ v i l. elim [ ])
  traces (C2 w l) own carried some set = quiet s m _ o _ (λ v i z. elim [ ], λ v i l. elim [ ])
  traces (C3L w l r) own carried some set = quiet s m _ o _ (λ v i z. elim [ ], λ v i l. elim [ ])
  traces (C3R w l r puts takes) own carried some set = quiet s m _ o _ (λ v i z. elim [ ], λ v i l. elim [ ])
  traces (C3N w l r puts takes) own carried some set =
      quiet s m _ o _ (both (Quiet o) (same_totals puts takes (block s m w.node (w.head - 1))) (above_quiet o w.node) (λ v i z. elim [ ], λ v i l. elim [ ]))
  traces (C4 w n) own carried some set =
      let inner = step_nodes s m hold k kp b (C4 w n) carried in
      quiet_after s m _ _ o _ (advance_quiet o w (after_refresh w.refresh (absent (block s m w.node w.head))) w.node w.head)
      (write_super s m sized sound w.node w.head (block_of number n) (inner_node s w.node inner) refl (Busy o (C4 w n))) (λ v. inl refl)
  traces Q own carried some set = record { supers = λ v i. inl refl; heads = λ v. inl refl; comes_to_v2 = λ v i z. elim [ ]; comes_to_v3 = λ v i l. elim [ ] }
