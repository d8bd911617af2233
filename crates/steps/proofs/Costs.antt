-- An operation takes at most 40H + 1 own steps: each step lowers a bound on those still to take, which is 40H + 1 at A.
use Prim.Native.Nat.{ℕ, zero, suc, ◌+◌, ◌*◌, ◌-◌, ◌≤◌, ◌<◌}
use native.Mathlib.Omega.{arith}
use mathlib.Core.Path.{◌≡◌, refl, ap, ◌∙◌}
use mathlib.Core.Bool.{Bool, true, false}
use lib.Dec.{eqb}
use borrow.Author.Tests.{eqb-true, eqb-false}
use Rattle.base.proofs.Cases.{both, cases}
use Rattle.tree.specs.Shape.{Shape, processes, root, leaf_of, parent_of, left_of, right_of, height_of}
use Rattle.tree.specs.Blocks.{absent}
use Rattle.tree.specs.Memory.{Memory, head_of, block}
use Rattle.tree.specs.Clauses.Invariant.{Node, Inner}
use Rattle.tree.proofs.Nodes.{inner_node, parent_inner}
use Rattle.tree.proofs.Heights.{height_most, height_root, height_leaf, height_parent}
use Rattle.steps.specs.declared.Operation.{Operation}
use Rattle.steps.specs.declared.Refresh.{Refresh}
use Rattle.steps.specs.declared.Refresh.TheVariants.{First, Second}
use Rattle.steps.specs.declared.Visit.{Visit}
use Rattle.steps.specs.declared.After.{After}
use Rattle.steps.specs.declared.After.TheVariants.{Right, Ends, Again, Up}
use Rattle.steps.specs.declared.Step.{Step}
use Rattle.steps.specs.declared.Step.TheVariants.{A, V1, V2, V3, R1, R2, R3, R4, R5, C1, C2, C3L, C3R, C3N, C4, Q}
use Rattle.steps.specs.declared.Status.{Status}
use Rattle.steps.specs.declared.Status.TheVariants.{Idle, Busy}
use Rattle.steps.specs.Rules.{above, resume, advance, after_failed, after_refresh, help, same_totals, go_telling, go, step}
use Rattle.steps.proofs.Stages.{Stage, resting, adding, advancing, starting, building, answering, stage}

-- ---- the costs

-- A, and Q
abbrev pub add_cost : ℕ
add_cost = 1

abbrev pub answer_cost : ℕ
answer_cost = 1

-- an advance: V1 to V3, at the root V3 only; a help is an advance below the root
abbrev pub advance_below : ℕ
advance_below = 3

abbrev pub advance_root : ℕ
advance_root = 1

abbrev pub help_cost : ℕ
help_cost = advance_below

-- the own steps of a refresh: R1 to R3, R4 to R5, C1 to C4, with C3L, C3R and C3N
abbrev pub left_steps : ℕ
left_steps = 3

abbrev pub right_steps : ℕ
right_steps = 2

abbrev pub end_steps : ℕ
end_steps = 6

-- a refresh from R4, and from R1, up to and with C4
abbrev pub from_right : ℕ
from_right = right_steps + help_cost + end_steps

abbrev pub build_cost : ℕ
build_cost = left_steps + help_cost + from_right

-- two refreshes of a node, with their advances: below the root, and of the root
abbrev pub level_cost : ℕ
level_cost = 2 * (build_cost + advance_below)

abbrev pub root_cost : ℕ
root_cost = 2 * (build_cost + advance_root)

-- the advance of a node of depth d
unfoldable pub advance_at : ℕ → ℕ
advance_at zero = advance_root
advance_at (suc d) = advance_below

-- what follows the last refresh of a node of depth d: two refreshes of each node above it at most, and Q
unfoldable pub up_cost : ℕ → ℕ
up_cost zero = answer_cost
up_cost (suc d) = build_cost + advance_at d + (build_cost + advance_at d) + up_cost d

pub up_cost_lem : (d : ℕ) → up_cost (suc d) ≡ level_cost * d + (root_cost + answer_cost)
unfolding up_cost advance_at
up_cost_lem zero = refl
up_cost_lem (suc d) = omega (arith, up_cost_lem d)

-- ---- the depth of a node
unfoldable pub depth : Shape → ℕ → ℕ
depth s v = s.height - height_of s v

module _ (s : Shape) where
  pub depth_root : depth s root ≡ 0
  unfolding depth root
  depth_root = omega (arith, height_root s)

  pub depth_leaf : (k : ℕ) → k < processes s → depth s (leaf_of s k) ≡ s.height
  unfolding depth
  depth_leaf k kp = omega (arith, height_leaf s k kp)

  pub depth_parent : (v : ℕ) → Node s v → (v ≡ root → ⊥) → depth s v ≡ suc (depth s (parent_of v))
  unfolding depth height_of root
  depth_parent v n ne =
      let ip : Inner s (parent_of v) = parent_inner s v n ne in
      omega (arith, height_parent s v ip.first ip.last, height_most s.height (parent_of v))

-- ---- what an operation may still take

-- from the advance of a refreshed node: after a first refresh there may be a second
unfoldable pub tail : Shape → ℕ → Refresh → ℕ
tail s v Second = advance_at (depth s v) + up_cost (depth s v)
tail s v First = advance_at (depth s v) + (build_cost + advance_at (depth s v)) + up_cost (depth s v)

-- after an advance
unfoldable pub rest_after : Shape → After → Visit → ℕ
rest_after s Right w = from_right + tail s w.node w.refresh
rest_after s Ends w = end_steps + tail s w.node w.refresh
rest_after s Again w = build_cost + tail s w.node Second
rest_after s Up w = up_cost (depth s w.node)

-- from a step, itself included
unfoldable pub rest : Shape → Step → ℕ
rest s A = add_cost + advance_below + up_cost s.height
rest s (V1 a w v h) = advance_below + rest_after s a w
rest s (V2 a w v h x) = 2 + rest_after s a w
rest s (V3 a w v h) = advance_root + rest_after s a w
rest s (R1 q v) = build_cost + tail s v q
rest s (R2 w) = 2 + help_cost + from_right + tail s w.node w.refresh
rest s (R3 w c) = 1 + help_cost + from_right + tail s w.node w.refresh
rest s (R4 w) = from_right + tail s w.node w.refresh
rest s (R5 w c) = 1 + help_cost + end_steps + tail s w.node w.refresh
rest s (C1 w) = end_steps + tail s w.node w.refresh
rest s (C2 w l) = 5 + tail s w.node w.refresh
rest s (C3L w l r) = 4 + tail s w.node w.refresh
rest s (C3R w l r puts takes) = 3 + tail s w.node w.refresh
rest s (C3N w l r puts takes) = 2 + tail s w.node w.refresh
rest s (C4 w n) = 1 + tail s w.node w.refresh
rest s Q = answer_cost

abbrev pub rest_of : Shape → Status → ℕ
rest_of s Idle = 0
rest_of s (Busy o n) = rest s n

-- ---- the nodes that the bound needs: a refreshed node is an inner one, and the way up starts at any node
abbrev pub AfterNodes : Shape → After → ℕ → Type 0
AfterNodes s Right v = Inner s v
AfterNodes s Ends v = Inner s v
AfterNodes s Again v = Inner s v
AfterNodes s Up v = Node s v

abbrev pub StageNodes : Shape → Stage → Type 0
StageNodes s resting = Unit {0}
StageNodes s adding = Unit {0}
StageNodes s (advancing w a v h) = AfterNodes s a w.node
StageNodes s (starting v q) = Inner s v
StageNodes s (building w x) = Inner s w.node
StageNodes s answering = Unit {0}

abbrev pub StepNodes : Shape → Step → Type 0
StepNodes s n = StageNodes s (stage n)

-- ---- each step lowers the bound
module _ (s : Shape) where
  rest_above : (v : ℕ) → Node s v → rest s (above v) ≤ up_cost (depth s v)
  unfolding rest above tail up_cost
  rest_above v n =
      cases (λ (x : Step). rest s x ≤ up_cost (depth s v)) (eqb v root)
      (λ e. rw (eqb-true v root e, depth_root s) (omega arith))
      (λ e. rw (depth_parent s v n (eqb-false v root e), up_cost) (omega arith))

  rest_resume : (a : After) (w : Visit) → AfterNodes s a w.node → rest s (resume a w) ≤ rest_after s a w
  unfolding rest rest_after resume
  rest_resume Right w n = omega arith
  rest_resume Ends w n = omega arith
  rest_resume Again w n = omega arith
  rest_resume Up w n = rest_above w.node n

  rest_advance : (w : Visit) (a : After) (v h : ℕ) → rest s (advance w a v h) ≤ advance_below + rest_after s a w
  unfolding rest advance
  rest_advance w a v h = both (λ (n : Step). rest s n ≤ advance_below + rest_after s a w) (eqb v root) (omega arith) (omega arith)

  rest_help : (m : Memory) (w : Visit) (a : After) → AfterNodes s a w.node → (v c : ℕ) → rest s (help s m w a v c) ≤ help_cost + rest_after s a w
  unfolding help
  rest_help m w a n v c =
      both (λ (x : Step). rest s x ≤ help_cost + rest_after s a w) (absent (block s m v c)) (omega (arith, rest_resume a w n)) (rest_advance w a v c)

  -- the advance of a refreshed node, and what follows it
  advance_own : (w : Visit) (a : After) (h : ℕ) → Node s w.node → rest s (advance w a w.node h) ≤ advance_at (depth s w.node) + rest_after s a w
  unfolding rest advance advance_at
  advance_own w a h n =
      cases (λ (x : Step). rest s x ≤ advance_at (depth s w.node) + rest_after s a w) (eqb w.node root)
      (λ e. let d : depth s w.node ≡ 0 = ap (depth s) (eqb-true w.node root e) ∙ depth_root s in omega (arith, ap advance_at d))
      (λ e. omega (arith, ap advance_at (depth_parent s w.node n (eqb-false w.node root e))))

  after_refresh_lem : (w : Visit) (q : Refresh) (x : Bool) → advance_at (depth s w.node) + rest_after s (after_refresh q x) w ≤ tail s w.node q
  unfolding rest_after after_refresh after_failed tail
  after_refresh_lem w Second true = omega arith
  after_refresh_lem w First true = omega arith
  after_refresh_lem w Second false = omega arith
  after_refresh_lem w First false = omega arith

  up_tail : (v : ℕ) (q : Refresh) → up_cost (depth s v) ≤ tail s v q
  unfolding tail
  up_tail v Second = omega arith
  up_tail v First = omega arith

  after_leaf : (k : ℕ) → k < processes s → (h : ℕ) → rest_after s Up (record { node = leaf_of s k; refresh = First; head = h }) ≡ up_cost s.height
  unfolding rest_after
  after_leaf k kp h = ap up_cost (depth_leaf s k kp)

pub rest_step : (s : Shape) → 1 ≤ s.height → (number k : ℕ) → k < processes s → (o : Operation) (m : Memory) (n : Step) → StepNodes s n
    → rest_of s (step s number k o m n).next < rest s n
unfolding step go_telling go rest rest_after
rest_step s tall number k kp o m A n =
    let h : ℕ = head_of m (leaf_of s k) in
    omega (arith, rest_advance s (record { node = leaf_of s k; refresh = First; head = h }) Up (leaf_of s k) h, after_leaf s k kp h)
rest_step s tall number k kp o m (V1 a w v h) n = omega arith
rest_step s tall number k kp o m (V2 a w v h x) n = omega arith
rest_step s tall number k kp o m (V3 a w v h) n = omega (arith, rest_resume s a w n)
rest_step s tall number k kp o m (R1 q v) n = omega arith
rest_step s tall number k kp o m (R2 w) n = omega arith
rest_step s tall number k kp o m (R3 w c) n = omega (arith, rest_help s m w Right n (left_of w.node) c)
rest_step s tall number k kp o m (R4 w) n = omega arith
rest_step s tall number k kp o m (R5 w c) n = omega (arith, rest_help s m w Ends n (right_of w.node) c)
rest_step s tall number k kp o m (C1 w) n = omega arith
rest_step s tall number k kp o m (C2 w l) n = omega arith
rest_step s tall number k kp o m (C3L w l r) n = omega arith
rest_step s tall number k kp o m (C3R w l r puts takes) n = omega arith
rest_step s tall number k kp o m (C3N w l r puts takes) n =
    both (λ (x : Step). rest s x < 2 + tail s w.node w.refresh) (same_totals puts takes (block s m w.node (w.head - 1)))
    (omega (arith, rest_above s w.node (inner_node s w.node n), up_tail s w.node w.refresh)) (omega arith)
rest_step s tall number k kp o m (C4 w b) n =
    let x : Bool = absent (block s m w.node w.head) in
    omega (arith, advance_own s w (after_refresh w.refresh x) w.head (inner_node s w.node n), after_refresh_lem s w w.refresh x)
rest_step s tall number k kp o m Q n = omega arith

-- ---- the bound at the first step
pub rest_first_cost : (s : Shape) → 1 ≤ s.height → rest s A ≡ add_cost + advance_below + (level_cost * (s.height - 1) + (root_cost + answer_cost))
unfolding rest
rest_first_cost s tall = let e : s.height ≡ suc (s.height - 1) = omega arith in omega (arith, ap up_cost e, up_cost_lem (s.height - 1))

pub rest_first : (s : Shape) → 1 ≤ s.height → rest s A ≡ 40 * s.height + 1
rest_first s tall = omega (arith, rest_first_cost s tall)
