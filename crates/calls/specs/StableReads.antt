-- Document 01, "C3 and Q read only blocks that can no longer change, save super", where C3 is three steps: of a machine
-- m, and of one that it becomes as more records are taken.
use Rattle.std.specs.Prelude.{ℕ, ◌*◌, ◌-◌, ◌≤◌, ◌<◌, ◌≡◌}
use Rattle.tree.specs.declared.Block.{Block}
use Rattle.tree.specs.Shape.{Shape, processes, root, left_of, right_of}
use Rattle.tree.specs.Memory.{head_of, block}
use Rattle.tree.specs.Sides.{Side, child_of, end_of}
use Rattle.tree.specs.Standing.{root_block_of}
use Rattle.steps.specs.declared.Operation.{Operation}
use Rattle.steps.specs.declared.Visit.{Visit}
use Rattle.steps.specs.declared.Status.TheVariants.{Busy}
use Rattle.steps.specs.declared.Step.TheVariants.{C3L, C3R, C3N, Q}
use Rattle.steps.specs.Machine.{Machine, process_of}
use Rattle.calls.specs.Answer.{reply_of}
use Rattle.calls.specs.History.{operation}

-- two blocks are equal, save super
pub record EqualSaveSuper (x y : Block) : Type 0 where
  pub puts : x.puts ≡ y.puts
  pub takes : x.takes ≡ y.takes
  pub left : x.left ≡ y.left
  pub right : x.right ≡ y.right
  pub size : x.size ≡ y.size
  pub number : x.number ≡ y.number

-- What is below a head can no longer change: in n it is what it is in m. What a block below a head opens is below heads
-- too: its ends are. Process k at C3L, C3R or C3N: the block that it reads is below a head. Process k at Q: its root
-- block is below the root's head, and so is all that this block and those before it open; what it finds there, its root
-- block and its reply, it would find in n.
pub record StableReads (s : Shape) (m n : Machine) (k : ℕ) : Type 0 where
  pub stays : (v i : ℕ) → 1 ≤ v → v < 2 * processes s → i < head_of m.memory v → EqualSaveSuper (block s n.memory v i) (block s m.memory v i)
  pub opens : (v i : ℕ) → 1 ≤ v → v < processes s → i < head_of m.memory v → (d : Side) → end_of d (block s m.memory v i) < head_of m.memory (child_of d v)
  pub c3l : (o : Operation) (w : Visit) (l r : ℕ) → (process_of m k).status ≡ Busy o (C3L w l r) → l < head_of m.memory (left_of w.node)
  pub c3r : (o : Operation) (w : Visit) (l r puts takes : ℕ) → (process_of m k).status ≡ Busy o (C3R w l r puts takes) → r < head_of m.memory (right_of w.node)
  pub c3n : (o : Operation) (w : Visit) (l r puts takes : ℕ) → (process_of m k).status ≡ Busy o (C3N w l r puts takes) → w.head - 1 < head_of m.memory w.node
  pub q : (o : Operation) → (process_of m k).status ≡ Busy o Q
      → let b = root_block_of s m.memory.table (operation k (process_of m k).begun) in (1 ≤ b) × (b < head_of m.memory root)
  pub root_block : (o : Operation) → (process_of m k).status ≡ Busy o Q
      → let x = operation k (process_of m k).begun in root_block_of s n.memory.table x ≡ root_block_of s m.memory.table x
  pub reply : (o : Operation) → (process_of m k).status ≡ Busy o Q
      → let x = operation k (process_of m k).begun in reply_of s n.memory.table x o ≡ reply_of s m.memory.table x o
