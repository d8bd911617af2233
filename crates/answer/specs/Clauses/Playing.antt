-- A process of a machine that is being played: what its next step needs.
use Rattle.std.specs.Prelude.{ℕ, ◌-◌, ◌≤◌, ◌<◌, ◌≡◌, List}
use Rattle.tree.specs.Shape.{Shape, processes, leaf_of}
use Rattle.tree.specs.Memory.{block, memory_of}
use Rattle.tree.specs.Clauses.Invariant.{Present}
use Rattle.steps.specs.declared.Operation.{Operation}
use Rattle.steps.specs.declared.Step.{Step}
use Rattle.steps.specs.declared.Status.TheVariants.{Busy}
use Rattle.steps.specs.declared.Process.{Process}
use Rattle.steps.specs.Machine.{Machine, process_of}
use Rattle.steps.proofs.Invariant.{Invariant}
use Rattle.calls.proofs.Leaves.{IsBlockOf}

-- the machine of some table words, heads and processes
abbrev pub machine_of : List ℕ → List ℕ → List Process → Machine
machine_of table heads ps = record { memory = memory_of table heads; processes = ps }

-- process k is q in a machine that keeps the invariant
pub record Plays (s : Shape) (ps : List Process) (heads table : List ℕ) (k : ℕ) (q : Process) : Type 0 where
  pub inner : 1 ≤ s.height
  pub tall : s.height ≤ 3
  pub few : s.most ≤ 500
  pub low : k < processes s
  pub here : process_of (machine_of table heads ps) k ≡ q
  pub keeps : Invariant s (machine_of table heads ps)
  -- inside an operation it has begun one, whose block, once it is in the leaf, is that operation's
  pub some : (o : Operation) (n : Step) → q.status ≡ Busy o n → 1 ≤ q.begun
  pub own : (o : Operation) (n : Step) → q.status ≡ Busy o n
      → let m = memory_of table heads in Present s m (leaf_of s k) q.begun
      → IsBlockOf o (block s m (leaf_of s k) (q.begun - 1)) (block s m (leaf_of s k) q.begun)
