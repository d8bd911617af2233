-- The stage of an operation that a step is in, with what the process holds there.
use Prim.Native.Nat.{ℕ}
use mathlib.Core.Path.{◌≡◌, refl}
use lib.Dec.{eqb}
use Rattle.base.proofs.Cases.{both}
use Rattle.tree.specs.Shape.{root}
use Rattle.tree.specs.Sides.{Side, onLeft, onRight}
use Rattle.steps.specs.declared.Refresh.{Refresh}
use Rattle.steps.specs.declared.Visit.{Visit}
use Rattle.steps.specs.declared.After.{After}
use Rattle.steps.specs.declared.After.TheVariants.{Right, Ends, Again, Up}
use Rattle.steps.specs.declared.Built.{Built}
use Rattle.steps.specs.declared.Step.{Step}
use Rattle.steps.specs.declared.Step.TheVariants.{A, V1, V2, V3, R1, R2, R3, R4, R5, C1, C2, C3L, C3R, C3N, C4, Q}
use Rattle.steps.specs.declared.Status.{Status}
use Rattle.steps.specs.declared.Status.TheVariants.{Idle, Busy}
use Rattle.steps.specs.Rules.{above, resume, advance}

-- the totals in hand, once both ends are: none, those of the left child's block, or the sums of both children's
pub data Tally : Type 0 where
  uncounted : Tally
  counted_left : ℕ → ℕ → Tally
  counted_both : ℕ → ℕ → Tally

-- the ends in hand: none, the left one, both with totals, or the block made of them
pub data Hand : Type 0 where
  none : Hand
  one : ℕ → Hand
  two : ℕ → ℕ → Tally → Hand
  made : Built → Hand

pub data Stage : Type 0 where
  resting : Stage
  adding : Stage
  advancing : Visit → After → ℕ → ℕ → Stage
  starting : ℕ → Refresh → Stage
  building : Visit → Hand → Stage
  answering : Stage

abbrev pub stage : Step → Stage
stage A = adding
stage (V1 a w v h) = advancing w a v h
stage (V2 a w v h x) = advancing w a v h
stage (V3 a w v h) = advancing w a v h
stage (R1 x v) = starting v x
stage (R2 w) = building w none
stage (R3 w c) = building w none
stage (R4 w) = building w none
stage (R5 w c) = building w none
stage (C1 w) = building w none
stage (C2 w l) = building w (one l)
stage (C3L w l r) = building w (two l r uncounted)
stage (C3R w l r puts takes) = building w (two l r (counted_left puts takes))
stage (C3N w l r puts takes) = building w (two l r (counted_both puts takes))
stage (C4 w n) = building w (made n)
stage Q = answering

abbrev pub stage_of : Status → Stage
stage_of Idle = resting
stage_of (Busy o n) = stage n

-- the stage after the last refresh of v, and after an advance
abbrev pub above_stage : ℕ → Stage
above_stage v = stage (above v)

abbrev pub after_stage : After → Visit → Stage
after_stage a w = stage (resume a w)

pub stage_advance : (w : Visit) (a : After) (v h : ℕ) → stage (advance w a v h) ≡ advancing w a v h
unfolding advance
stage_advance w a v h = both (λ (n : Step). stage n ≡ advancing w a v h) (eqb v root) refl refl

-- what is in hand has end e on a side
abbrev pub HasEnd : Side → Hand → ℕ → Type 0
HasEnd d none e = ⊥
HasEnd onLeft (one l) e = l ≡ e
HasEnd onRight (one l) e = ⊥
HasEnd onLeft (two l r x) e = l ≡ e
HasEnd onRight (two l r x) e = r ≡ e
HasEnd onLeft (made n) e = n.left ≡ e
HasEnd onRight (made n) e = n.right ≡ e

-- whatever is counted, the ends are the same
pub ends_stay : (l r : ℕ) (x y : Tally) (d : Side) (e : ℕ) → HasEnd d (two l r x) e → HasEnd d (two l r y) e
ends_stay l r x y onLeft e p = p
ends_stay l r x y onRight e p = p

-- a process in that stage refreshes node u with head h, and has end e in hand on a side
abbrev pub Holds : Side → Stage → ℕ → ℕ → ℕ → Type 0
Holds d resting u h e = ⊥
Holds d adding u h e = ⊥
Holds d (advancing w a v i) u h e = ⊥
Holds d (starting v x) u h e = ⊥
Holds d (building w x) u h e = (w.node ≡ u) × (w.head ≡ h) × HasEnd d x e
Holds d answering u h e = ⊥

pub above_empty : (v : ℕ) (d : Side) (u h e : ℕ) → Holds d (above_stage v) u h e → ⊥
unfolding above
above_empty v d u h e = both (λ (n : Step). Holds d (stage n) u h e → ⊥) (eqb v root) (λ q. q) (λ q. q)

pub after_empty : (a : After) (w : Visit) (d : Side) (u h e : ℕ) → Holds d (after_stage a w) u h e → ⊥
unfolding resume
after_empty Right w d u h e p = p.2
after_empty Ends w d u h e p = p.2
after_empty Again w d u h e p = p
after_empty Up w d u h e p = above_empty w.node d u h e p
