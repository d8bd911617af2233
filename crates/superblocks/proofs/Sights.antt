-- What a step leaves its own process with, of a present block of a child that it has seen. Here helping counts: R3 and
-- R5 advance a child's block that is there, so the head that C1 or C2 then reads is past it.
use Prim.Native.Nat.{ℕ, ◌-◌, ◌≤◌, ◌<◌}
use native.Mathlib.Omega.{arith}
use native.Mathlib.Decide.{ℕ_discrete}
use native.Mathlib.Nat.{le_refl}
use mathlib.Core.Path.{◌≡◌, ap, subst}
use mathlib.Core.Bool.{Bool, true}
use lib.Dec.{eqb}
use Rattle.base.proofs.Cases.{both, cases}
use Rattle.tree.specs.Shape.{Shape, root, leaf_of, left_of, right_of}
use Rattle.tree.specs.Blocks.{absent}
use Rattle.tree.specs.Memory.{Memory, head_of, block, write, set_super, raise}
use Rattle.tree.specs.Sides.{Side, onLeft, onRight, child_of}
use Rattle.tree.specs.Clauses.Invariant.{Node, count, Present, Sized, Sound}
use Rattle.tree.proofs.Presence.{absent_count}
use Rattle.tree.proofs.Writes.{raise_cases, raise_past}
use Rattle.tree.proofs.Sound.{present_low}
use Rattle.steps.specs.declared.Operation.{Operation}
use Rattle.steps.specs.declared.Refresh.{Refresh}
use Rattle.steps.specs.declared.Refresh.TheVariants.{First, Second}
use Rattle.steps.specs.declared.Visit.{Visit}
use Rattle.steps.specs.declared.After.{After}
use Rattle.steps.specs.declared.After.TheVariants.{Right, Ends, Again, Up}
use Rattle.steps.specs.declared.Step.{Step}
use Rattle.steps.specs.declared.Step.TheVariants.{A, V1, V2, V3, R1, R2, R3, R4, R5, C1, C2, C3L, C3R, C3N, C4, Q}
use Rattle.steps.specs.declared.Status.TheVariants.{Busy}
use Rattle.steps.specs.Rules.{above, resume, advance, after_failed, after_refresh, help, same_totals, built, go_telling, go, step}
use Rattle.steps.proofs.Stages.{Stage, stage}
use Rattle.steps.proofs.Progress.{Carried}
use Rattle.superblocks.proofs.Marks.{looking, advances, help_sight, Covers, covers_rises, Seen}

-- what follows the advance of a refreshed node: the second refresh, or the way up
next_refresh : (P : After → Type 0) → P Up → P Again → (x : Refresh) (success : Bool) → P (after_refresh x success)
unfolding after_refresh after_failed
next_refresh P up again First success = both P success up again
next_refresh P up again Second success = both P success up up

-- ---- what is seen of a present block, at place i of the child on side d of node u
module _ (s : Shape) (m : Memory) (sound : Sound s m) (o : Operation) (u i z : ℕ) where
  seen_above : (d : Side) (n : Memory) (v : ℕ) → Seen n d u i z (Busy o (above v))
  unfolding above
  seen_above d n v = both (λ (x : Step). Seen n d u i z (Busy o x)) (eqb v root) (λ e l. tt) (λ e l. tt)

  seen_advance : (d : Side) (n : Memory) (w : Visit) (a : After) (v h : ℕ) → (w.node ≡ u → z < w.head → Covers n d u i (help_sight a d v h)) → Seen n d u i z (Busy o (advance w a v h))
  unfolding advance
  seen_advance d n w a v h p = both (λ (x : Step). Seen n d u i z (Busy o x)) (eqb v root) p p

  -- R3, R5: the place is absent, or it is advanced
  seen_help : (d : Side) (w : Visit) (a : After) (v c : ℕ) → (absent (block s m v c) ≡ true → Seen m d u i z (Busy o (resume a w)))
      → (w.node ≡ u → z < w.head → Covers m d u i (help_sight a d v c)) → Seen m d u i z (Busy o (help s m w a v c))
  unfolding help
  seen_help d w a v c p q = cases (λ (x : Step). Seen m d u i z (Busy o x)) (absent (block s m v c)) p (λ e. seen_advance d m w a v c q)

  -- the place looked at was the head, so if it is absent it is not the block's: the head is past the block
  passed_over : (d : Side) (v c : ℕ) → Present s m (child_of d u) i → v ≡ u → absent (block s m (child_of d v) c) ≡ true → Covers m d u i (looking c) → i < head_of m (child_of d u)
  passed_over d v c here e free p = on (ℕ_discrete i c)
    where
      none : count (block s m (child_of d u) c) ≡ 0
      none = rw e at (absent_count (block s m (child_of d v) c) free)

      on : Dec (i ≡ c) → i < head_of m (child_of d u)
      on (yes f) = let g : count (block s m (child_of d u) i) ≡ 0 = rw f none in absurd (omega (arith, g))
      on (no f) = omega (arith, p.0, p.1)

  -- V3: the head is past the place that was advanced, which is not before the block; and no head falls
  raised_over : Sized s m → (d : Side) (v h : ℕ) → Node s v → Present s m v h → Covers m d u i (advances v h) → i < head_of (raise m v h) (child_of d u)
  raised_over sized d v h nv here p =
      subst (λ (y : ℕ). i < head_of (raise m v h) y) p.1
      (omega (arith, p.0, raise_past m v h (omega (arith, nv.last, sized.heads)) (present_low (sound.node v nv) h here)))

  head_stays : (v h y : ℕ) → i < head_of m y → i < head_of (raise m v h) y
  head_stays v h y l = raise_cases m v h (λ (x : ℕ). i < x) y (λ e f. omega arith) l

  seen_resume : Sized s m → (d : Side) (a : After) (w : Visit) (v h : ℕ) → Node s v → Present s m v h → (w.node ≡ u → z < w.head → Covers m d u i (help_sight a d v h))
      → Seen (raise m v h) d u i z (Busy o (resume a w))
  unfolding resume
  seen_resume sized onLeft Right w v h nv here q = λ e l. raised_over sized onLeft v h nv here (q e l)
  seen_resume sized onRight Right w v h nv here q = λ e l. tt
  seen_resume sized onLeft Ends w v h nv here q = λ e l. head_stays v h (left_of u) (q e l)
  seen_resume sized onRight Ends w v h nv here q = λ e l. raised_over sized onRight v h nv here (q e l)
  seen_resume sized d Again w v h nv here q = λ e l. tt
  seen_resume sized d Up w v h nv here q = seen_above d (raise m v h) w.node

  module _ (sized : Sized s m) (hold : ℕ → Stage) (number k b : ℕ) where
    -- R2, R4: the head that is read is not before the block
    head_read : (d : Side) (v : ℕ) → i ≤ head_of m (child_of d u) → v ≡ u → Covers m d u i (looking (head_of m (child_of d v)))
    head_read d v l e = rw e (l, le_refl _)

    -- R3, R5 that find a block: it is the child's that is advanced
    helping : (d : Side) (v c : ℕ) → v ≡ u → Covers m d u i (looking c) → Covers m d u i (advances (child_of d v) c)
    helping d v c e p = (p.0, ap (child_of d) e)

    -- C1, C2: the end that is read is not before the block
    end_read_lem : (d : Side) (v : ℕ) → v ≡ u → i < head_of m (child_of d u) → i ≤ head_of m (child_of d v) - 1
    end_read_lem d v e l = rw e (omega arith)

    -- every step
    pub seen_turn : (n : Step) (d : Side) → Present s m (child_of d u) i → i ≤ head_of m (child_of d u) → Carried s m hold k b (stage n) → Seen m d u i z (Busy o n)
        → Seen (step s number k o m n).memory d u i z (step s number k o m n).next
    unfolding step go_telling go resume set_super write head_of built
    seen_turn A d here low carried q = seen_advance d (step s number k o m A).memory _ Up (leaf_of s k) (head_of m (leaf_of s k)) (λ e l. tt)
    seen_turn (V1 a w v h) d here low carried q = q
    seen_turn (V2 a w v h x) d here low carried q = λ e l. covers_rises m (set_super s m v h x) d u i (le_refl _) (help_sight a d v h) (q e l)
    seen_turn (V3 a w v h) d here low carried q = seen_resume sized d a w v h carried.node carried.present q
    seen_turn (R1 p v) d here low carried q = λ e l. tt
    seen_turn (R2 w) onLeft here low carried q = λ e l. head_read onLeft w.node low e
    seen_turn (R2 w) onRight here low carried q = λ e l. tt
    seen_turn (R3 w c) onLeft here low carried q =
        seen_help onLeft w Right (left_of w.node) c (λ free e l. passed_over onLeft w.node c here e free (q e l)) (λ e l. helping onLeft w.node c e (q e l))
    seen_turn (R3 w c) onRight here low carried q = seen_help onRight w Right (left_of w.node) c (λ free e l. tt) (λ e l. tt)
    seen_turn (R4 w) onLeft here low carried q = q
    seen_turn (R4 w) onRight here low carried q = λ e l. head_read onRight w.node low e
    seen_turn (R5 w c) onLeft here low carried q = seen_help onLeft w Ends (right_of w.node) c (λ free. q) q
    seen_turn (R5 w c) onRight here low carried q =
        seen_help onRight w Ends (right_of w.node) c (λ free e l. passed_over onRight w.node c here e free (q e l)) (λ e l. helping onRight w.node c e (q e l))
    seen_turn (C1 w) onLeft here low carried q = λ e l. end_read_lem onLeft w.node e (q e l)
    seen_turn (C1 w) onRight here low carried q = q
    seen_turn (C2 w x) onLeft here low carried q = q
    seen_turn (C2 w x) onRight here low carried q = λ e l. end_read_lem onRight w.node e (q e l)
    seen_turn (C3L w x y) onLeft here low carried q = q
    seen_turn (C3L w x y) onRight here low carried q = q
    seen_turn (C3R w x y puts takes) onLeft here low carried q = q
    seen_turn (C3R w x y puts takes) onRight here low carried q = q
    seen_turn (C3N w x y puts takes) d here low carried q =
        both (λ (n : Step). Seen m d u i z (Busy o n)) (same_totals puts takes (block s m w.node (w.head - 1))) (seen_above d m w.node) (seen_built d q)
      where
        seen_built : (d : Side) → Seen m d u i z (Busy o (C3N w x y puts takes)) → Seen m d u i z (Busy o (C4 w (built w.node (block s m w.node (w.head - 1)) x y puts takes)))
        seen_built onLeft q = q
        seen_built onRight q = q
    seen_turn (C4 w n) d here low carried q =
        seen_advance d (step s number k o m (C4 w n)).memory w _ w.node w.head
        (λ e l. next_refresh (λ (a : After). Covers (step s number k o m (C4 w n)).memory d u i (help_sight a d w.node w.head)) tt tt w.refresh (absent (block s m w.node w.head)))
    seen_turn Q d here low carried q = tt
