-- A process whose next step is Q: its operation stands in the root, and where it stands gives its answer.
use Prim.Native.Nat.{ℕ, ◌-◌, ◌<◌}
use native.Mathlib.Omega.{arith}
use mathlib.Core.Path.{◌≡◌, subst}
use mathlib.Core.List.{List}
use Rattle.record.specs.declared.Reply.{Reply}
use Rattle.record.specs.declared.Reply.TheVariants.{Done}
use Rattle.tree.specs.declared.Kind.TheVariants.{Takes}
use Rattle.tree.specs.Shape.{Shape, root}
use Rattle.tree.specs.Memory.{Memory, head_of, block, memory_of}
use Rattle.tree.specs.Order.{total}
use Rattle.tree.proofs.Sound.{below_head}
use Rattle.tree.proofs.LastRoot.{root_sound}
use Rattle.tree.proofs.Reached.{reached_present}
use Rattle.steps.specs.declared.Operation.{Operation}
use Rattle.steps.specs.declared.Operation.TheVariants.{Put, Take}
use Rattle.steps.specs.declared.Status.{Status}
use Rattle.steps.specs.declared.Status.TheVariants.{Busy}
use Rattle.steps.specs.declared.Step.TheVariants.{Q}
use Rattle.steps.specs.declared.Process.{Process}
use Rattle.tree.specs.Clauses.SoundTree.{SoundTree}
use Rattle.steps.proofs.Stages.{stage_of}
use Rattle.steps.proofs.Progress.{Rooted, Carried}
use Rattle.steps.proofs.Invariant.{holding}
use Rattle.tree.proofs.Places.{processes_most}
use Rattle.calls.specs.Answer.{take_reply, reply_of, answer_of}
use Rattle.search.specs.declared.Standing.{Standing}
use Rattle.search.specs.Clauses.Stands.{Stands, RootBlockIs, OfKind, StandsAt, StandsOf}
use Rattle.answer.specs.Clauses.Playing.{machine_of, Plays}
use Rattle.answer.specs.Clauses.Answering.{record_of, TakeAt}
use Rattle.answer.proofs.PlaysLaws.{steps_small, helps_small, begun_small, plays_tree}

module _ {s : Shape} {ps : List Process} {heads table : List ℕ} {k : ℕ} {q : Process} (plays : Plays s ps heads table k q) where
  abbrev m : Memory
  m = memory_of table heads

  -- what its answer tells fits its bytes, and its serial
  pub answer_fits : (k < 256) × (q.steps < 255) × (q.helps < 256) × (q.begun < 65536)
  answer_fits = (
    omega (arith, plays.low, processes_most s plays.tall),
    steps_small s ps heads table k q plays,
    omega (arith, helps_small s ps heads table k q plays),
    omega (arith, begun_small s ps heads table k q plays),
  )

  tree : SoundTree s heads table
  tree = plays_tree s ps heads table k q plays

  -- i is the operation's serial
  module _ {o : Operation} (status : q.status ≡ Busy o Q) {i : ℕ} (serial : i ≡ q.begun) where
    -- what the invariant says at Q: the root's blocks below its head hold the operation
    rooted : Rooted s m k q.begun
    rooted =
        subst (λ (x : Status). Carried s m (holding (machine_of table heads ps)) k q.begun (stage_of x)) status
        (subst (λ (x : Process). Carried s m (holding (machine_of table heads ps)) k x.begun (stage_of x.status)) plays.here (plays.keeps.process k plays.low).carried)

    -- so it can be found there
    pub stands_as : Stands s heads table k i
    stands_as = rw serial (record { tree = tree; process = plays.low; first = plays.some o Q status; rooted = rooted })

    -- the record that is made is its answer
    answer_is : {b : ℕ} {r : Reply} → RootBlockIs s table k i b → r ≡ reply_of s table (record { process = k; serial = i }) o
        → record_of k q r b ≡ answer_of s (machine_of table heads ps) k o
    unfolding answer_of
    answer_is stands f = rw (plays.here, f, stands.own, serial)

    pub put_answer : {x b : ℕ} → o ≡ Put x → RootBlockIs s table k i b → record_of k q Done b ≡ answer_of s (machine_of table heads ps) k o
    unfolding reply_of
    put_answer e stands = answer_is stands (rw e)

    module _ (e : o ≡ Take) where
      -- the leaf of a take has its block
      of_takes : OfKind s table Takes k q.begun
      unfolding total block
      of_takes =
          let n = root_sound s m tree.sound in
          let held = reached_present s m tree.sound plays.inner k plays.low (head_of m root - 1) (below_head n _ (omega (arith, n.head))) q.begun (plays.some o Q status) rooted in
          omega (arith, (plays.own Take Q (rw e at status) held).1)

      pub take_stands : StandsOf Takes s heads table k i
      take_stands = (stands_as, rw serial of_takes)

      module _ {at : Standing} (stands : StandsAt s table Takes k i at) where
        pub taken_as : TakeAt s table at.block at.rank heads
        taken_as = record { tree = tree; some = stands.block.first; most = stands.block.last; first = stands.some }

        pub take_answer : {r : Reply} → r ≡ take_reply s table at.block at.rank → record_of k q r at.block ≡ answer_of s (machine_of table heads ps) k o
        unfolding reply_of
        take_answer f = answer_is stands.block (rw (e, ← stands.block.own, ← stands.rank) f)
