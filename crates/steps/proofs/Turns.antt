-- Every step is one of fourteen turns: what it does to the memory and to the stage. This is where the named steps are
-- read off the rules; the laws above go by turns.
use Prim.Native.Nat.{ℕ, ◌+◌, ◌-◌}
use native.Mathlib.Omega.{arith}
use mathlib.Core.Path.{◌≡◌, refl}
use mathlib.Core.Bool.{Bool, true, false}
use Rattle.base.proofs.Cases.{cases}
use Rattle.tree.specs.Shape.{Shape, leaf_of, left_of, right_of}
use Rattle.tree.specs.Blocks.{absent}
use Rattle.tree.specs.Memory.{Memory, head_of, block, write, write_if_absent, set_super, raise}
use Rattle.tree.specs.Sides.{Side, onLeft, onRight, child_of}
use Rattle.steps.specs.declared.Operation.{Operation}
use Rattle.steps.specs.declared.Refresh.{Refresh}
use Rattle.steps.specs.declared.Refresh.TheVariants.{First}
use Rattle.steps.specs.declared.Visit.{Visit}
use Rattle.steps.specs.declared.After.{After}
use Rattle.steps.specs.declared.After.TheVariants.{Right, Ends, Up}
use Rattle.steps.specs.declared.Built.{Built}
use Rattle.steps.specs.declared.Step.{Step}
use Rattle.steps.specs.declared.Step.TheVariants.{A, V1, V2, V3, R1, R2, R3, R4, R5, C1, C2, C3L, C3R, C3N, C4, Q}
use Rattle.steps.specs.Rules.{resume, after_refresh, help, plus_operation, same_totals, built, block_of, go_telling, go, step}
use Rattle.steps.proofs.Stages.{Tally, uncounted, counted_left, counted_both, none, one, two, made}
use Rattle.steps.proofs.Stages.{Stage, resting, adding, advancing, starting, building, answering, stage, stage_of, above_stage, after_stage, stage_advance}
use Rattle.steps.proofs.Progress.{Tallied}

-- what follows a help on a side
abbrev pub after_help : Side → After
after_help onLeft = Right
after_help onRight = Ends

-- a turn of process k by the record with this number, inside operation o, on memory m: the stage before it, the memory
-- after it, the stage after it
pub data Turn (s : Shape) (number k : ℕ) (o : Operation) (m : Memory) : Stage → Memory → Stage → Type 0 where
  -- V1, R2, R4; R3 and R5 that find no block
  rests : (x : Stage) → Turn s number k o m x m x
  -- A
  adds : Turn s number k o m adding
      (write s m (leaf_of s k) (head_of m (leaf_of s k)) (plus_operation number o (block s m (leaf_of s k) (head_of m (leaf_of s k) - 1))))
      (advancing (record { node = leaf_of s k; refresh = First; head = head_of m (leaf_of s k) }) Up (leaf_of s k) (head_of m (leaf_of s k)))
  -- V2
  supers : (w : Visit) (a : After) (v h x : ℕ) → Turn s number k o m (advancing w a v h) (set_super s m v h x) (advancing w a v h)
  -- V3
  raises : (w : Visit) (a : After) (v h : ℕ) → Turn s number k o m (advancing w a v h) (raise m v h) (after_stage a w)
  -- R1
  starts : (v : ℕ) (q : Refresh) → Turn s number k o m (starting v q) m (building (record { node = v; refresh = q; head = head_of m v }) none)
  -- R3 and R5 that find a block
  assists : (w : Visit) (d : Side) (c : ℕ) → absent (block s m (child_of d w.node) c) ≡ false
      → Turn s number k o m (building w none) m (advancing w (after_help d) (child_of d w.node) c)
  -- C1, C2: the end is the place before the child's head
  ends_left : (w : Visit) (l : ℕ) → l ≡ head_of m (left_of w.node) - 1 → Turn s number k o m (building w none) m (building w (one l))
  ends_right : (w : Visit) (l r : ℕ) → r ≡ head_of m (right_of w.node) - 1 → Turn s number k o m (building w (one l)) m (building w (two l r uncounted))
  -- C3L, C3R: what is counted was right, and so is what then is
  counts : (w : Visit) (l r : ℕ) (x y : Tally) → (Tallied s m w l r x → Tallied s m w l r y)
      → Turn s number k o m (building w (two l r x)) m (building w (two l r y))
  -- C3N: other totals than those of the block before, or equal ones
  makes : (w : Visit) (l r puts takes : ℕ) → same_totals puts takes (block s m w.node (w.head - 1)) ≡ false
      → Turn s number k o m (building w (two l r (counted_both puts takes))) m (building w (made (built w.node (block s m w.node (w.head - 1)) l r puts takes)))
  finds : (w : Visit) (l r puts takes : ℕ) → same_totals puts takes (block s m w.node (w.head - 1)) ≡ true
      → Turn s number k o m (building w (two l r (counted_both puts takes))) m (above_stage w.node)
  -- C4: the place is absent, or taken
  writes : (w : Visit) (n : Built) → absent (block s m w.node w.head) ≡ true
      → Turn s number k o m (building w (made n)) (write s m w.node w.head (block_of number n)) (advancing w (after_refresh w.refresh true) w.node w.head)
  meets : (w : Visit) (n : Built) → absent (block s m w.node w.head) ≡ false
      → Turn s number k o m (building w (made n)) m (advancing w (after_refresh w.refresh false) w.node w.head)
  -- Q
  finishes : Turn s number k o m answering m resting

module _ (s : Shape) (number k : ℕ) (o : Operation) (m : Memory) where
  help_turn : (w : Visit) (d : Side) (c : ℕ) → stage (resume (after_help d) w) ≡ building w none
      → Turn s number k o m (building w none) m (stage (help s m w (after_help d) (child_of d w.node) c))
  unfolding help
  help_turn w d c e =
      cases (λ (n : Step). Turn s number k o m (building w none) m (stage n)) (absent (block s m (child_of d w.node) c))
      (λ f. rw e (rests (building w none)))
      (λ f. rw (stage_advance w (after_help d) (child_of d w.node) c) (assists w d c f))

  write_turn : (w : Visit) (n : Built) (b : Bool) → absent (block s m w.node w.head) ≡ b
      → Turn s number k o m (building w (made n)) (write_if_absent s m w.node w.head (block_of number n)) (advancing w (after_refresh w.refresh b) w.node w.head)
  unfolding write_if_absent write
  write_turn w n true e = rw e (writes w n e)
  write_turn w n false e = rw e (meets w n e)

  pub turn : (n : Step) → Turn s number k o m (stage n) (step s number k o m n).memory (stage_of (step s number k o m n).next)
  unfolding step go_telling go resume
  turn A = rw (stage_advance _ Up (leaf_of s k) (head_of m (leaf_of s k))) adds
  turn (V1 a w v h) = rests (advancing w a v h)
  turn (V2 a w v h x) = supers w a v h x
  turn (V3 a w v h) = raises w a v h
  turn (R1 q v) = starts v q
  turn (R2 w) = rests (building w none)
  turn (R3 w c) = help_turn w onLeft c refl
  turn (R4 w) = rests (building w none)
  turn (R5 w c) = help_turn w onRight c refl
  turn (C1 w) = ends_left w _ refl
  turn (C2 w l) = ends_right w l _ refl
  turn (C3L w l r) =
      let x = block s m (left_of w.node) l in counts w l r uncounted (counted_left x.puts x.takes) (λ p. (refl, refl))
  turn (C3R w l r puts takes) =
      let y = block s m (right_of w.node) r in
      counts w l r (counted_left puts takes) (counted_both (puts + y.puts) (takes + y.takes)) (λ p. (omega (arith, p.0), omega (arith, p.1)))
  turn (C3N w l r puts takes) =
      cases (λ (n : Step). Turn s number k o m (building w (two l r (counted_both puts takes))) m (stage n)) (same_totals puts takes (block s m w.node (w.head - 1)))
      (λ e. finds w l r puts takes e) (λ e. makes w l r puts takes e)
  turn (C4 w n) =
      rw (stage_advance w (after_refresh w.refresh (absent (block s m w.node w.head))) w.node w.head)
      (write_turn w n (absent (block s m w.node w.head)) refl)
  turn Q = finishes
