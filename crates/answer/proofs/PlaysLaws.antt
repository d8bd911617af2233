-- What is known of a process that is being played.
use Prim.Native.Nat.{ℕ, ◌≤◌, ◌<◌}
use native.Mathlib.Omega.{arith}
use mathlib.Core.Path.{◌≡◌, ap, ◌∙◌}
use mathlib.Core.Bool.{false}
use mathlib.Core.List.{List}
use Rattle.tree.specs.Shape.{Shape, leaf_of}
use Rattle.tree.specs.Clauses.SoundTree.{SoundTree}
use Rattle.steps.specs.declared.Operation.{Operation}
use Rattle.steps.specs.declared.Step.{Step}
use Rattle.steps.specs.declared.Status.TheVariants.{Busy}
use Rattle.steps.specs.declared.Process.{Process}
use Rattle.steps.specs.Machine.{is_q}
use Rattle.steps.specs.Clauses.Ready.{Ready}
use Rattle.steps.proofs.Costs.{rest_first}
use Rattle.steps.proofs.Readiness.{ready}
use Rattle.answer.specs.Clauses.Playing.{machine_of, Plays}

module _ (s : Shape) (ps : List Process) (heads table : List ℕ) (k : ℕ) (q : Process) (plays : Plays s ps heads table k q) where
  -- its own steps, with one more, and its helps fit a byte, by the limit on own steps; the operations that it has begun
  -- are few
  pub steps_small : q.steps < 255
  steps_small =
      omega (arith, (plays.keeps.process k plays.low).bounded, ap (λ (x : Process). x.steps) plays.here, rest_first s plays.inner, plays.tall)

  pub helps_small : q.helps < 255
  helps_small =
      omega (arith, steps_small, (plays.keeps.process k plays.low).helped, ap (λ (x : Process). x.steps) plays.here, ap (λ (x : Process). x.helps) plays.here)

  pub begun_small : q.begun ≤ 500
  begun_small = omega (arith, (plays.keeps.process k plays.low).within, ap (λ (x : Process). x.begun) plays.here, plays.few)

  -- its memory is a sound tree
  pub plays_tree : SoundTree s heads table
  plays_tree =
      record {
        inner = plays.inner;
        tall = plays.tall;
        few = plays.few;
        sized = plays.keeps.sized;
        sound = plays.keeps.sound;
      }

  -- a busy process that is not at Q can take its step
  pub plays_ready : (o : Operation) (n : Step) → q.status ≡ Busy o n → is_q n ≡ false → Ready s heads table (leaf_of s k) n
  plays_ready o n e z =
      ready s (machine_of table heads ps) plays.keeps plays_tree k plays.low o n (ap (λ (x : Process). x.status) plays.here ∙ e) z
