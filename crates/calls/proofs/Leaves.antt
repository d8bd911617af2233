-- What each leaf's block is: that of the operation of its process with that serial.
use Prim.Native.Nat.{ℕ, suc, ◌+◌, ◌<◌}
use mathlib.Core.Path.{◌≡◌}
use mathlib.Core.List.{List}
use Rattle.tree.specs.declared.Block.{Block}
use Rattle.tree.specs.Shape.{Shape, processes, leaf_of}
use Rattle.tree.specs.Memory.{Memory, block}
use Rattle.tree.specs.Clauses.Invariant.{Present}
use Rattle.steps.specs.declared.Operation.{Operation}
use Rattle.steps.specs.declared.Operation.TheVariants.{Put, Take}
use Rattle.calls.specs.History.{Event, operation, does}

-- c is the block of operation o, after block b
abbrev pub IsBlockOf : Operation → Block → Block → Type 0
IsBlockOf (Put x) b c = (c.puts ≡ b.puts + 1) × (c.takes ≡ b.takes) × (c.left ≡ x)
IsBlockOf Take b c = (c.puts ≡ b.puts) × (c.takes ≡ b.takes + 1)

-- every present leaf's block is that of its operation in history h
abbrev pub LeavesAre : Shape → Memory → List Event → Type 0
LeavesAre s m h =
    (k : ℕ) → k < processes s → (i : ℕ) → Present s m (leaf_of s k) (suc i)
    → IsBlockOf (does (operation k (suc i)) h) (block s m (leaf_of s k) i) (block s m (leaf_of s k) (suc i))
