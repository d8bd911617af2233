-- What is known of a process's own leaf, after a turn of another and after its own.
use Prim.Native.Nat.{ℕ, zero, suc, ◌+◌, ◌-◌, ◌≤◌, ◌<◌}
use native.Mathlib.Omega.{arith}
use native.Mathlib.Decide.{dec_le}
use mathlib.Core.Path.{◌≡◌, refl, ◌∙◌, subst}
use mathlib.Core.Logic.{◌⊎◌, inl, inr}
use lib.Dec.{eqb}
use Rattle.base.proofs.Cases.{both}
use Rattle.tree.specs.Shape.{Shape, processes, root, leaf_of}
use Rattle.tree.specs.Memory.{Memory, head_of, block, write, raise}
use Rattle.tree.specs.Clauses.Invariant.{Node, count, Present, Sized, Sound}
use Rattle.tree.proofs.Nodes.{leaf_node}
use Rattle.tree.proofs.Writes.{raise_past}
use Rattle.tree.proofs.Sound.{present_low}
use Rattle.steps.specs.declared.Operation.{Operation}
use Rattle.steps.specs.declared.Visit.{Visit}
use Rattle.steps.specs.declared.After.{After}
use Rattle.steps.specs.declared.After.TheVariants.{Right, Ends, Again, Up}
use Rattle.steps.specs.declared.Step.{Step}
use Rattle.steps.specs.Rules.{above, resume}
use Rattle.steps.proofs.Stages.{stage, above_stage, Hand, made, Stage, resting, adding, advancing, starting, building, answering, after_stage}
use Rattle.steps.proofs.Turns.{Turn, rests, adds, supers, raises, starts, assists, ends_left, ends_right, counts, makes, finds, writes, meets, finishes}
use Rattle.steps.proofs.Progress.{LeafEnds, LeafDone, LeafOpen, LeafMoving, OwnLeaf, Carried}
use Rattle.steps.proofs.Others.{LeafWrote, Effect}

-- a leaf has no block past the operations begun
pub leaf_within : (s : Shape) (m : Memory) (k b : ℕ) (x : Stage) → OwnLeaf s m k b x → (i : ℕ) → Present s m (leaf_of s k) i → i ≤ b
leaf_within s m k b x own i f = on (dec_le i b)
  where
    past : (x : Stage) → OwnLeaf s m k b x → b < i → count (block s m (leaf_of s k) i) ≡ 0
    past resting o l = o.ends i l
    past adding o l = o.ends i (omega arith)
    past (advancing w a v h) o l = o.ends i l
    past (starting v q) o l = o.ends i l
    past (building w y) o l = o.ends i l
    past answering o l = o.ends i l

    on : Dec (i ≤ b) → i ≤ b
    on (yes l) = l
    on (no l) = absurd (omega (arith, past x own (omega arith)))

-- ---- a turn of process a that adds nothing to the leaf of process k
module _ {s : Shape} {m n : Memory} {number a : ℕ} {o : Operation} {x y : Stage} (eff : Effect s number a o m x n y) (k : ℕ) (kp : k < processes s) (b : ℕ)
    (quiet : k ≡ a → x ≡ adding → ⊥)
  where
    ends_stay : (w : ℕ) → LeafEnds s m k w → LeafEnds s n k w
    ends_stay w ends zero l = absurd (omega arith)
    ends_stay w ends (suc i) l = on (dec_le 1 (count (block s n (leaf_of s k) (suc i))))
      where
        old : LeafWrote s number a o m x n k i → ⊥
        old (inl f) = omega (arith, ends (suc i) l)
        old (inr f) = quiet f.0 f.1

        on : Dec (Present s n (leaf_of s k) (suc i)) → count (block s n (leaf_of s k) (suc i)) ≡ 0
        on (yes f) = absurd (old (eff.leaves k i f))
        on (no f) = omega arith

    -- a head past the last block stays
    head_stays : (w : ℕ) → LeafEnds s m k w → head_of m (leaf_of s k) ≡ w + 1 → head_of n (leaf_of s k) ≡ w + 1
    head_stays w ends e = on (eff.grows.raised (leaf_of s k) (leaf_node s k kp))
      where
        on : (head_of n (leaf_of s k) ≡ head_of m (leaf_of s k)) ⊎ ((head_of n (leaf_of s k) ≡ head_of m (leaf_of s k) + 1) × Present s m (leaf_of s k) (head_of m (leaf_of s k)))
            → head_of n (leaf_of s k) ≡ w + 1
        on (inl f) = f ∙ e
        on (inr f) = absurd (omega (arith, f.1, ends (head_of m (leaf_of s k)) (omega arith)))

    done_stays : LeafDone s m k b → LeafDone s n k b
    done_stays d = record { ends = ends_stay b d.ends; head = head_stays b d.ends d.head }

    moving_stays : (v h : ℕ) → LeafMoving s m k b v h → LeafMoving s n k b v h
    moving_stays v h d = record { ends = ends_stay b d.ends; head = on d.head (eff.grows.raised (leaf_of s k) (leaf_node s k kp)) }
      where
        on : (head_of m (leaf_of s k) ≡ b + 1) ⊎ ((v ≡ leaf_of s k) × (h ≡ b) × (head_of m (leaf_of s k) ≡ b))
            → (head_of n (leaf_of s k) ≡ head_of m (leaf_of s k)) ⊎ ((head_of n (leaf_of s k) ≡ head_of m (leaf_of s k) + 1) × Present s m (leaf_of s k) (head_of m (leaf_of s k)))
            → (head_of n (leaf_of s k) ≡ b + 1) ⊎ ((v ≡ leaf_of s k) × (h ≡ b) × (head_of n (leaf_of s k) ≡ b))
        on (inl e) r = inl (head_stays b d.ends e)
        on (inr e) (inl f) = inr (e.0, e.1, f ∙ e.2)
        on (inr e) (inr f) = inl (omega (arith, f.0, e.2))

    pub own_stable : (z : Stage) → OwnLeaf s m k b z → OwnLeaf s n k b z
    own_stable resting d = done_stays d
    own_stable adding d =
        record { some = d.some; ends = ends_stay (b - 1) d.ends; head = omega (arith, d.some, head_stays (b - 1) d.ends (omega (arith, d.some, d.head))) }
    own_stable (advancing w a' v h) d = moving_stays v h d
    own_stable (starting v q) d = done_stays d
    own_stable (building w z) d = done_stays d
    own_stable answering d = done_stays d

-- ---- its own turn
own_above : {s : Shape} {m : Memory} {k b : ℕ} (v : ℕ) → LeafDone s m k b → OwnLeaf s m k b (above_stage v)
unfolding above
own_above {s} {m} {k} {b} v d = both (λ (n : Step). OwnLeaf s m k b (stage n)) (eqb v root) d d

own_after : {s : Shape} {m : Memory} {k b : ℕ} (a : After) (w : Visit) → LeafDone s m k b → OwnLeaf s m k b (after_stage a w)
unfolding resume
own_after Right w d = d
own_after Ends w d = d
own_after Again w d = d
own_after Up w d = own_above w.node d

moving : {s : Shape} {m : Memory} {k b v h : ℕ} → LeafDone s m k b → LeafMoving s m k b v h
moving d = record { ends = d.ends; head = inl d.head }

not_adding : {w : Visit} {a : After} {v h : ℕ} → advancing w a v h ≡ adding → ⊥
not_adding e = let z : ◌≡◌ {A = ℕ} 0 1 = cc in omega arith

not_adding' : {w : Visit} {y : Hand} → building w y ≡ adding → ⊥
not_adding' e = let z : ◌≡◌ {A = ℕ} 0 1 = cc in omega arith

module _ (s : Shape) (number k : ℕ) (kp : k < processes s) (o : Operation) (m : Memory) (sized : Sized s m) (sound : Sound s m) (hold : ℕ → Stage) (b : ℕ) where
  -- A
  added : {y : Stage} {n : Memory} → Effect s number k o m adding n y → LeafOpen s m k b → head_of n (leaf_of s k) ≡ head_of m (leaf_of s k)
      → LeafMoving s n k b (leaf_of s k) (head_of m (leaf_of s k))
  added {y} {n} eff d same = record { ends = ends; head = inr (refl, d.head, same ∙ d.head) }
    where
      ends : LeafEnds s n k b
      ends zero l = absurd (omega arith)
      ends (suc i) l = on (dec_le 1 (count (block s n (leaf_of s k) (suc i))))
        where
          old : LeafWrote s number k o m adding n k i → ⊥
          old (inl f) = omega (arith, d.ends (suc i) (omega arith))
          old (inr f) = omega (arith, f.2, d.head)

          on : Dec (Present s n (leaf_of s k) (suc i)) → count (block s n (leaf_of s k) (suc i)) ≡ 0
          on (yes f) = absurd (old (eff.leaves k i f))
          on (no f) = omega arith

  -- V3
  raised : {y : Stage} (w : Visit) (a : After) (v h : ℕ) → Effect s number k o m (advancing w a v h) (raise m v h) y → Present s m v h → Node s v → LeafMoving s m k b v h
      → LeafDone s (raise m v h) k b
  raised w a v h eff here nv d = on (moving_stays eff k kp b (λ e. not_adding) v h d)
    where
      past : h < head_of (raise m v h) v
      past = raise_past m v h (omega (arith, nv.last, sized.heads)) (present_low (sound.node v nv) h here)

      on : LeafMoving s (raise m v h) k b v h → LeafDone s (raise m v h) k b
      on r = record { ends = r.ends; head = at r.head }
        where
          at : (head_of (raise m v h) (leaf_of s k) ≡ b + 1) ⊎ ((v ≡ leaf_of s k) × (h ≡ b) × (head_of (raise m v h) (leaf_of s k) ≡ b)) → head_of (raise m v h) (leaf_of s k) ≡ b + 1
          at (inl e) = e
          at (inr e) = absurd (omega (arith, subst (λ (u : ℕ). h < head_of (raise m v h) u) e.0 past, e.1, e.2))

  pub own_turn : {x : Stage} {n : Memory} {y : Stage} → Turn s number k o m x n y → Effect s number k o m x n y → OwnLeaf s m k b x → Carried s m hold k b x → OwnLeaf s n k b y
  unfolding write head_of
  own_turn (rests x) eff d p = d
  own_turn adds eff d p = added eff d refl
  own_turn (supers w a v h z) eff d p = own_stable eff k kp b (λ e. not_adding) (advancing w a v h) d
  own_turn (raises w a v h) eff d p = own_after a w (raised w a v h eff p.present p.node d)
  own_turn (starts v q) eff d p = d
  own_turn (assists w z c f) eff d p = moving d
  own_turn (ends_left w l f) eff d p = d
  own_turn (ends_right w l r f) eff d p = d
  own_turn (counts w l r x y f) eff d p = d
  own_turn (makes w l r puts takes f) eff d p = d
  own_turn (finds w l r puts takes f) eff d p = own_above w.node d
  own_turn (writes w c f) eff d p = moving (own_stable eff k kp b (λ e. not_adding') (building w (made c)) d)
  own_turn (meets w c f) eff d p = moving d
  own_turn finishes eff d p = d
