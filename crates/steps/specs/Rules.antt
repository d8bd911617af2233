-- The step rules: what each named step does to the shared memory, and which step comes next.
use Rattle.std.specs.Prelude.{ℕ, ◌+◌, ◌-◌, Bool, true, ◌&&◌, eqb, if◌then◌else◌}
use Rattle.std.proofs.Math.Bool.{false}
use Rattle.tree.specs.declared.Block.{Block}
use Rattle.tree.specs.Shape.{Shape, root, leaf_of, parent_of, left_of, right_of}
use Rattle.tree.specs.Blocks.{absent}
use Rattle.steps.specs.declared.Operation.{Operation}
use Rattle.steps.specs.declared.Operation.TheVariants.{Put, Take}
use Rattle.steps.specs.declared.Refresh.{Refresh}
use Rattle.steps.specs.declared.Refresh.TheVariants.{First, Second}
use Rattle.steps.specs.declared.Visit.{Visit}
use Rattle.steps.specs.declared.After.{After}
use Rattle.steps.specs.declared.After.TheVariants.{Right, Ends, Again, Up}
use Rattle.steps.specs.declared.Built.{Built}
use Rattle.steps.specs.declared.Step.{Step}
use Rattle.steps.specs.declared.Step.TheVariants.{A, V1, V2, V3, R1, R2, R3, R4, R5, C1, C2, C3L, C3R, C3N, C4, Q}
use Rattle.steps.specs.declared.Status.{Status}
use Rattle.steps.specs.declared.Status.TheVariants.{Idle, Busy}
use Rattle.tree.specs.Memory.{Memory, head_of, block, write, write_if_absent, set_super, head_is, raise}
use Rattle.tree.specs.Size.{root_size}

-- ---- the order of the steps

-- after the last refresh of v: the parent is refreshed, or after the root Q is done
unfoldable pub above : ℕ → Step
above v = if eqb v root then Q else R1 First (parent_of v)

-- the first step of what follows an advance
unfoldable pub resume : After → Visit → Step
resume Right w = R4 w
resume Ends w = C1 w
resume Again w = R1 Second w.node
resume Up w = above w.node

-- advance (v, h), in a visit: V1, V2, V3; at the root, V3 only
unfoldable pub advance : Visit → After → ℕ → ℕ → Step
advance w a v h = if eqb v root then V3 a w v h else V1 a w v h

-- what follows the advance of a refreshed node whose refresh failed: after the first a second, after that the way up
unfoldable pub after_failed : Refresh → After
after_failed First = Again
after_failed Second = Up

-- what follows the advance of a refreshed node: the way up, if the refresh succeeded
unfoldable pub after_refresh : Refresh → Bool → After
after_refresh x success = if success then Up else after_failed x

-- whether an advance is of a child, which R3 or R5 began, inside a refresh; that of the own leaf, which A began, and
-- that of the refreshed node, which C4 began, are not
unfoldable pub of_child : After → Bool
of_child Right = true
of_child Ends = true
of_child Again = false
of_child Up = false

-- R3 and R5: the child's block at c is looked at; if present, advance (child, c)
unfoldable pub help : Shape → Memory → Visit → After → ℕ → ℕ → Step
help s m w a child c = if absent (block s m child c) then resume a w else advance w a child c

-- ---- the blocks that are written

-- A: the totals of block b plus this operation, super 0; a put's value in end left; the number of the record
unfoldable pub plus_operation : ℕ → Operation → Block → Block
plus_operation number (Put x) b =
    record { puts = b.puts + 1; takes = b.takes; superblock = 0; left = x; right = 0; size = 0; number = number }
plus_operation number Take b =
    record { puts = b.puts; takes = b.takes + 1; superblock = 0; left = 0; right = 0; size = 0; number = number }

-- C3N: whether the totals, sums of the two children's blocks, equal those of v's block before, which is old
unfoldable pub same_totals : ℕ → ℕ → Block → Bool
same_totals puts takes old = eqb puts old.puts && eqb takes old.takes

-- C3N: what C4 writes, with the ends l and r and these totals; only a root block has a size
unfoldable pub built : ℕ → Block → ℕ → ℕ → ℕ → ℕ → Built
built v old l r puts takes =
    record { left = l; right = r; puts = puts; takes = takes; size = if eqb v root then root_size old puts takes else 0 }

-- C4: the block, with super 0 and the number of the record
unfoldable pub block_of : ℕ → Built → Block
block_of number n =
    record {
      puts = n.puts;
      takes = n.takes;
      superblock = 0;
      left = n.left;
      right = n.right;
      size = n.size;
      number = number;
    }

-- ---- the rules

-- what a step leaves: the memory, and where the process then is; and what it tells, whether it was a help: a move of a
-- child's head inside a refresh
pub record Stepped : Type 0 where
  pub memory : Memory
  pub next : Status
  pub helped : Bool

-- the record with this number is a step of process k, inside operation o, on memory m: a line a named step
module _ (s : Shape) (number k : ℕ) (o : Operation) (m : Memory) where
  -- on to step n; V3 alone may be a help
  unfoldable pub go_telling : Memory → Step → Bool → Stepped
  go_telling after n helped = record { memory = after; next = Busy o n; helped = helped }

  unfoldable pub go : Memory → Step → Stepped
  unfolding go_telling
  go after n = go_telling after n false

  unfoldable pub step : Step → Stepped
  unfolding go_telling go
  step A =
      let v = leaf_of s k in
      let h = head_of m v in
      go (write s m v h (plus_operation number o (block s m v (h - 1)))) (advance (record { node = v; refresh = First; head = h }) Up v h)
  step (V1 a w v h) = go m (V2 a w v h (head_of m (parent_of v)))
  step (V2 a w v h x) = go (set_super s m v h x) (V3 a w v h)
  step (V3 a w v h) = go_telling (raise m v h) (resume a w) (of_child a && head_is m v h)
  step (R1 x v) = go m (R2 (record { node = v; refresh = x; head = head_of m v }))
  step (R2 w) = go m (R3 w (head_of m (left_of w.node)))
  step (R3 w c) = go m (help s m w Right (left_of w.node) c)
  step (R4 w) = go m (R5 w (head_of m (right_of w.node)))
  step (R5 w c) = go m (help s m w Ends (right_of w.node) c)
  step (C1 w) = go m (C2 w (head_of m (left_of w.node) - 1))
  step (C2 w l) = go m (C3L w l (head_of m (right_of w.node) - 1))
  step (C3L w l r) = let x = block s m (left_of w.node) l in go m (C3R w l r x.puts x.takes)
  step (C3R w l r puts takes) =
      let y = block s m (right_of w.node) r in go m (C3N w l r (puts + y.puts) (takes + y.takes))
  step (C3N w l r puts takes) =
      let v = w.node in
      let old = block s m v (w.head - 1) in
      go m (if same_totals puts takes old then above v else C4 w (built v old l r puts takes))
  step (C4 w n) =
      let v = w.node in
      let h = w.head in
      go (write_if_absent s m v h (block_of number n)) (advance w (after_refresh w.refresh (absent (block s m v h))) v h)
  step Q = record { memory = m; next = Idle; helped = false }
