-- The theorem: every run leaves each superblock at its block's super or one place later, for general H of every list of
-- records, and of what Run leaves for every p, L, list of bytes, table and answer buffer.
use Prim.Native.Nat.{ℕ, ◌≤◌}
use native.Mathlib.Omega.{arith}
use mathlib.Core.Path.{◌≡◌, sym, subst}
use mathlib.Core.Bool.{true}
use mathlib.Core.List.{List}
use lib.ListN.{length, take}
use Rattle.base.proofs.Cases.{cases}
use Rattle.base.proofs.Members.{members_between}
use Rattle.record.specs.declared.StepRecord.{StepRecord}
use Rattle.record.specs.StepRecords.{is_step, step_records}
use Rattle.tree.specs.Shape.{Shape, root, shape_for}
use Rattle.tree.specs.Sides.{subblocks}
use Rattle.tree.specs.Memory.{block}
use Rattle.tree.proofs.Presence.{present_count}
use Rattle.steps.specs.Machine.{Machine, process_of}
use Rattle.steps.proofs.Invariant.{Invariant}
use Rattle.superblocks.proofs.Marks.{SuperInvariant, statuses}
use Rattle.superblocks.proofs.MarksKept.{start_supers, begin_supers, step_supers}
use Rattle.superblocks.proofs.NearSuper.{superblock_near}
use Rattle.calls.specs.Refusals.{accepted, call_refusal}
use Rattle.calls.specs.Numbered.{Numbered, numbered}
use Rattle.calls.specs.Run.{operation_of, take_record, play, run}
use Rattle.calls.specs.History.{course_start, course_after, machine_after}
use Rattle.superblocks.specs.Supers.{SupersNear, RunSupers}
use Rattle.calls.proofs.Legal.{Accepted, Legal, none, more, not_step}
use Rattle.calls.proofs.Histories.{machine_snoc}
use Rattle.calls.proofs.Played.{played_machine, played_legal}
use Rattle.calls.proofs.Runs.{busy_status, runs}
use Rattle.calls.proofs.Theorem.{tall_for, run_is, table_is}

-- ---- one record more
record_supers : (s : Shape) → 1 ≤ s.height → (m : Machine) → Invariant s m → (n : Numbered) → Accepted s m n.item → SuperInvariant s m → SuperInvariant s (take_record s m n)
unfolding take_record
record_supers s tall m inv n acc old =
    let r = n.item in
    cases (SuperInvariant s) (is_step r)
    (λ z.
    let busy = busy_status (process_of m r.process).status (acc.busy z) in
    step_supers s tall n.number m inv r.process acc.process_low busy.0 busy.1 busy.2 old)
    (λ z. begin_supers s m inv r.process acc.process_low (operation_of r) (acc.idle (not_step r z)) (acc.within (not_step r z)) old)

-- ---- every legal list
runs_supers : (s : Shape) → 1 ≤ s.height → {ns : List Numbered} → Legal s ns → SuperInvariant s (machine_after s ns)
unfolding machine_after course_after course_start
runs_supers s tall none = start_supers s
runs_supers s tall (more {ns} n l a) =
    subst (SuperInvariant s) (sym (machine_snoc s ns n)) (record_supers s tall (machine_after s ns) (runs s tall l).invariant n a (runs_supers s tall l))

-- ---- the words of the table
supers_near : (s : Shape) (m : Machine) → Invariant s m → SuperInvariant s m → SupersNear s m.memory.table
unfolding block root subblocks
supers_near s m inv sup =
    record {
      near =
          λ d v q v1 vp here.
          members_between _ _ _
          (λ i low high. superblock_near s m.memory (statuses m) inv.sound sup d v (omega arith) i q (present_count _ here) low high);
    }

-- ---- a run of any records, to its end or up to its first refusal
pub played_supers : (s : Shape) → 1 ≤ s.height → (room : ℕ) (rs : List StepRecord) → SupersNear s (play s room rs).machine.memory.table
played_supers s tall room rs =
    let took = numbered (take (play s room rs).taken rs) in
    let l : Legal s took = played_legal s room rs in
    subst (λ (m : Machine). SupersNear s m.memory.table) (sym (played_machine s room rs))
    (supers_near s (machine_after s took) (runs s tall l).invariant (runs_supers s tall l))

-- ---- what a call of Run that is not turned down leaves in the table
pub supers_run : (p l : ℕ) (records table answers : List ℕ) → accepted (call_refusal p l (length table) (length records)) ≡ true → RunSupers p l (run p l records table answers)
supers_run p l records table answers taken =
    subst (RunSupers p l) (sym (run_is p l records table answers taken))
    (subst (SupersNear (shape_for p l)) (sym (table_is p l records table answers taken)) (played_supers (shape_for p l) (tall_for p l) (length answers) (step_records records)))
