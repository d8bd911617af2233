-- What StableReads refuses: a block at a head or past it, read by C3L, C3R or C3N. A clause that allowed the head
-- itself, or told of another block, would let it pass.
use Rattle.std.specs.Prelude.{ℕ, ◌*◌, ◌-◌, ◌≤◌, ◌<◌, ◌≡◌}
use Rattle.std.proofs.Common.{arith}
use Rattle.tree.specs.declared.Block.{Block}
use Rattle.tree.specs.Shape.{Shape, processes, root, left_of, right_of}
use Rattle.tree.specs.Memory.{head_of, block}
use Rattle.tree.specs.Sides.{Side, child_of, end_of}
use Rattle.tree.specs.Standing.{root_block_of}
use Rattle.steps.specs.declared.Operation.{Operation}
use Rattle.steps.specs.declared.Visit.{Visit}
use Rattle.steps.specs.declared.Status.TheVariants.{Busy}
use Rattle.steps.specs.declared.Step.TheVariants.{C3L, C3R, C3N, Q}
use Rattle.steps.specs.Machine.{Machine, process_of}
use Rattle.calls.specs.Answer.{reply_of}
use Rattle.calls.specs.History.{operation}
use Rattle.calls.specs.StableReads.{StableReads}

module _ (s : Shape) (m n : Machine) (k : ℕ) (o : Operation) (w : Visit) (l r puts takes : ℕ) where
  pub left_at_head : (process_of m k).status ≡ Busy o (C3L w l r) → head_of m.memory (left_of w.node) ≤ l → StableReads s m n k → ⊥
  left_at_head at high c = omega (arith, high, c.c3l o w l r at)

  pub right_at_head : (process_of m k).status ≡ Busy o (C3R w l r puts takes) → head_of m.memory (right_of w.node) ≤ r → StableReads s m n k → ⊥
  right_at_head at high c = omega (arith, high, c.c3r o w l r puts takes at)

  pub node_at_head : (process_of m k).status ≡ Busy o (C3N w l r puts takes) → head_of m.memory w.node ≤ w.head - 1 → StableReads s m n k → ⊥
  node_at_head at high c = omega (arith, high, c.c3n o w l r puts takes at)

-- a block as the words that must stay: all but super
abbrev save_super : Block → ℕ × ℕ × ℕ × ℕ × ℕ × ℕ
save_super b = (b.puts, b.takes, b.left, b.right, b.size, b.number)

module _ (s : Shape) (m n : Machine) (k : ℕ) where
  -- stays: what is below a head has other words in n
  pub changed : (v i : ℕ) → 1 ≤ v → v < 2 * processes s → i < head_of m.memory v → (save_super (block s n.memory v i) ≡ save_super (block s m.memory v i) → ⊥) → StableReads s m n k → ⊥
  changed v i first last below other c =
      let e = c.stays v i first last below in other (λ j. (e.puts j, e.takes j, e.left j, e.right j, e.size j, e.number j))

  -- opens: a block below a head ends at a child's head or past it
  pub end_at_head : (v i : ℕ) → 1 ≤ v → v < processes s → i < head_of m.memory v → (d : Side) → head_of m.memory (child_of d v) ≤ end_of d (block s m.memory v i) → StableReads s m n k → ⊥
  end_at_head v i first last below d high c = omega (arith, high, c.opens v i first last below d)

  -- q: at Q, no root block, or one at the root's head; root_block, reply: in n another
  module _ (o : Operation) (at : (process_of m k).status ≡ Busy o Q) where
    pub in_none : root_block_of s m.memory.table (operation k (process_of m k).begun) ≡ 0 → StableReads s m n k → ⊥
    in_none e c = omega (arith, e, (c.q o at).0)

    pub root_at_head : head_of m.memory root ≤ root_block_of s m.memory.table (operation k (process_of m k).begun) → StableReads s m n k → ⊥
    root_at_head high c = omega (arith, high, (c.q o at).1)

    pub other_block : (root_block_of s n.memory.table (operation k (process_of m k).begun) ≡ root_block_of s m.memory.table (operation k (process_of m k).begun) → ⊥) → StableReads s m n k → ⊥
    other_block other c = other (c.root_block o at)

    pub other_reply : (reply_of s n.memory.table (operation k (process_of m k).begun) o ≡ reply_of s m.memory.table (operation k (process_of m k).begun) o → ⊥) → StableReads s m n k → ⊥
    other_reply other c = other (c.reply o at)
