-- The invariant of the machine: the memory's, and each process's.
use Prim.Native.Nat.{ℕ, ◌+◌, ◌≤◌, ◌<◌}
use mathlib.Core.Path.{◌≡◌}
use lib.ListN.{length}
use Rattle.tree.specs.Shape.{Shape, processes}
use Rattle.tree.specs.Memory.{Memory, head_of}
use Rattle.tree.specs.Sides.{Side, child_of}
use Rattle.tree.specs.Clauses.Invariant.{Inner, Sized, Sound}
use Rattle.tree.proofs.Nodes.{inner_node, leaf_node}
use Rattle.tree.proofs.Writes.{write_sized, raise_sized}
use Rattle.tree.proofs.Ancestors.{ancestor_node, ancestor_inner}
use Rattle.steps.specs.declared.Operation.{Operation}
use Rattle.steps.specs.declared.Visit.{Visit}
use Rattle.steps.specs.declared.After.{After}
use Rattle.steps.specs.declared.After.TheVariants.{Right, Ends, Again, Up}
use Rattle.steps.specs.declared.Step.{Step}
use Rattle.steps.specs.declared.Step.TheVariants.{A}
use Rattle.steps.specs.declared.Process.{Process}
use Rattle.steps.specs.Machine.{Machine, process_of}
use Rattle.steps.proofs.Stages.{Stage, resting, adding, advancing, starting, building, answering, stage, stage_of, Holds}
use Rattle.steps.proofs.Turns.{Turn, rests, adds, supers, raises, starts, assists, ends_left, ends_right, counts, makes, finds, writes, meets, finishes}
use Rattle.steps.proofs.Progress.{OwnLeaf, Refreshing, AfterAdvance, Carried}
use Rattle.steps.proofs.Others.{Registers, hand_below}
use Rattle.steps.proofs.Costs.{AfterNodes, StageNodes, StepNodes, rest, rest_of}

-- what is known of process k
pub record ProcessSound (s : Shape) (m : Memory) (hold : ℕ → Stage) (k : ℕ) (p : Process) : Type 0 where
  pub within : p.begun ≤ s.most
  pub leaf : OwnLeaf s m k p.begun (stage_of p.status)
  pub carried : Carried s m hold k p.begun (stage_of p.status)
  pub bounded : p.steps + rest_of s p.status ≤ rest s A
  pub helped : p.helps ≤ p.steps

-- the stages of the processes
abbrev pub holding : Machine → ℕ → Stage
holding m r = stage_of (process_of m r).status

pub record Invariant (s : Shape) (m : Machine) : Type 0 where
  pub sized : Sized s m.memory
  pub counted : length m.processes ≡ processes s
  pub sound : Sound s m.memory
  pub process : (k : ℕ) → k < processes s → ProcessSound s m.memory (holding m) k (process_of m k)

-- ---- what the invariant says of registers
carried_ends : (s : Shape) (m : Memory) (hold : ℕ → Stage) (k b : ℕ) (x : Stage) → Carried s m hold k b x → (d : Side) (u h e : ℕ) → Holds d x u h e
    → (e < head_of m (child_of d u)) × (h ≤ head_of m u)
carried_ends s m hold k b resting p d u h e q = absurd q
carried_ends s m hold k b adding p d u h e q = absurd q
carried_ends s m hold k b (advancing w a v i) p d u h e q = absurd q
carried_ends s m hold k b (starting v z) p d u h e q = absurd q
carried_ends s m hold k b (building w x) p d u h e q =
    (rw q.0 at (hand_below s m w d e x p.hand q.2), rw (q.0, q.1) at p.refreshing.last)
carried_ends s m hold k b answering p d u h e q = absurd q

pub registers : (s : Shape) (m : Machine) → Invariant s m → Registers s m.memory (holding m)
registers s m inv =
    record {
      ends = λ r rp d u h e q. (carried_ends s m.memory (holding m) r _ (holding m r) (inv.process r rp).carried d u h e q).0;
      heads = λ r rp d u h e q. (carried_ends s m.memory (holding m) r _ (holding m r) (inv.process r rp).carried d u h e q).1;
    }

-- the nodes in the registers are the tree's
pub refresh_inner : (s : Shape) (m : Memory) (hold : ℕ → Stage) (k : ℕ) → k < processes s → (b : ℕ) (w : Visit) → Refreshing s m hold k b w → Inner s w.node
refresh_inner s m hold k kp b w r = rw r.node (ancestor_inner s k kp r.level r.low)

module _ (s : Shape) (m : Memory) (hold : ℕ → Stage) (k : ℕ) (kp : k < processes s) (b : ℕ) where
  after_nodes : (w : Visit) (a : After) (v h : ℕ) → AfterAdvance s m hold k b w a v h → AfterNodes s a w.node
  after_nodes w Right v h p = refresh_inner s m hold k kp b w p
  after_nodes w Ends v h p = refresh_inner s m hold k kp b w p
  after_nodes w Again v h p = rw p.node (ancestor_inner s k kp p.level p.low)
  after_nodes w Up v h p = rw p.node (ancestor_node s k kp p.level p.low)

  stage_nodes : (x : Stage) → Carried s m hold k b x → StageNodes s x
  stage_nodes resting p = tt
  stage_nodes adding p = tt
  stage_nodes (advancing w a v h) p = after_nodes w a v h p.then
  stage_nodes (starting v q) p = rw p.node (ancestor_inner s k kp p.level p.low)
  stage_nodes (building w x) p = refresh_inner s m hold k kp b w p.refreshing
  stage_nodes answering p = tt

  pub step_nodes : (n : Step) → Carried s m hold k b (stage n) → StepNodes s n
  step_nodes n p = stage_nodes (stage n) p

  pub turn_sized : {number : ℕ} {o : Operation} {x : Stage} {n : Memory} {y : Stage} → Turn s number k o m x n y → Carried s m hold k b x → Sized s m → Sized s n
  unfolding Rattle.tree.specs.Memory.set_super
  turn_sized (rests x) p sz = sz
  turn_sized adds p sz = write_sized s m _ _ _ sz (leaf_node s k kp)
  turn_sized (supers w a v h z) p sz = write_sized s m v h _ sz p.node
  turn_sized (raises w a v h) p sz = raise_sized m v h s sz
  turn_sized (starts v q) p sz = sz
  turn_sized (assists w d c f) p sz = sz
  turn_sized (ends_left w l f) p sz = sz
  turn_sized (ends_right w l r f) p sz = sz
  turn_sized (counts w l r x y f) p sz = sz
  turn_sized (makes w l r puts takes f) p sz = sz
  turn_sized (finds w l r puts takes f) p sz = sz
  turn_sized (writes w c f) p sz = write_sized s m w.node w.head _ sz (inner_node s w.node (refresh_inner s m hold k kp b w p.refreshing))
  turn_sized (meets w c f) p sz = sz
  turn_sized finishes p sz = sz
