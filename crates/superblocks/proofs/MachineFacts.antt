-- What the machine's invariant says of the processes that supers depend on.
use Prim.Native.Nat.{ℕ, ◌≤◌, ◌<◌}
use native.Mathlib.Omega.{arith}
use mathlib.Core.Path.{◌≡◌}
use Rattle.tree.specs.Shape.{Shape, processes}
use Rattle.tree.specs.Memory.{Memory, head_of}
use Rattle.tree.specs.Sides.{Side}
use Rattle.tree.specs.Clauses.Invariant.{Node, Present, Sound}
use Rattle.steps.specs.declared.Visit.{Visit}
use Rattle.steps.specs.declared.After.{After}
use Rattle.steps.specs.declared.After.TheVariants.{Right, Ends, Again, Up}
use Rattle.steps.specs.declared.Status.{Status}
use Rattle.steps.specs.declared.Status.TheVariants.{Idle, Busy}
use Rattle.steps.specs.Machine.{Machine, process_of}
use Rattle.steps.proofs.Stages.{Stage, resting, adding, advancing, starting, building, answering, stage, stage_of}
use Rattle.steps.proofs.Progress.{AfterAdvance, Carried}
use Rattle.steps.proofs.Invariant.{Invariant, holding}
use Rattle.superblocks.proofs.Marks.{Sight, help_sight, own_sight, stage_sight, visit_in, Covers, Seen, Asks, asks, statuses}

-- a block whose super is to be set is present, and no visit that has seen anything has a head past the node's
pub record MachineFacts (s : Shape) (m : Memory) (at : ℕ → Status) : Type 0 where
  pub sound : Sound s m
  pub asked : (r : ℕ) → r < processes s → (v i z : ℕ) → Asks v i z (at r) → Node s v × Present s m v i
  pub low : (r : ℕ) → r < processes s → (d : Side) (u i : ℕ) → Seen m d u i (head_of m u) (at r)

module _ (s : Shape) (m : Memory) (hold : ℕ → Stage) (k b : ℕ) where
  -- a block whose super is to be set is present
  asked : (v i z : ℕ) (x : Status) → Carried s m hold k b (stage_of x) → Asks v i z x → Node s v × Present s m v i
  asked v i z x p (asks o a w) = (p.node, p.present)

  -- the head that a visit has read is not past the node's
  module _ (d : Side) (u i : ℕ) where
    over : {A : Type 0} (w : Visit) → w.head ≤ head_of m w.node → w.node ≡ u → head_of m u < w.head → A
    over w l e g = let f : w.head ≤ head_of m u = rw e at l in absurd (omega arith)

    low_advance : (w : Visit) (a : After) (v h : ℕ) → AfterAdvance s m hold k b w a v h → w.node ≡ u → head_of m u < w.head → Covers m d u i (help_sight a d v h)
    low_advance w Right v h p = over w p.last
    low_advance w Ends v h p = over w p.last
    low_advance w Again v h p = λ e l. tt
    low_advance w Up v h p = λ e l. tt

    low : (x : Stage) (y : Sight) → Carried s m hold k b x → (visit_in x).node ≡ u → head_of m u < (visit_in x).head → Covers m d u i (stage_sight x d y)
    low resting y p = λ e l. tt
    low adding y p = λ e l. tt
    low (advancing w a v h) y p = low_advance w a v h p.then
    low (starting v q) y p = λ e l. tt
    low (building w x) y p = over w p.refreshing.last
    low answering y p = λ e l. tt

  low_status : (d : Side) (u i : ℕ) (x : Status) → Carried s m hold k b (stage_of x) → Seen m d u i (head_of m u) x
  low_status d u i Idle p = tt
  low_status d u i (Busy o n) p = low d u i (stage n) (own_sight n d) p

pub machine_facts : (s : Shape) (m : Machine) → Invariant s m → MachineFacts s m.memory (statuses m)
machine_facts s m inv =
    record {
      sound = inv.sound;
      asked = λ r rp v i z q. asked s m.memory (holding m) r (process_of m r).begun v i z (statuses m r) (inv.process r rp).carried q;
      low = λ r rp d u i. low_status s m.memory (holding m) r (process_of m r).begun d u i (statuses m r) (inv.process r rp).carried;
    }
