-- `begins::begins_refusal` meets its contract. The loop's invariant: the records before the next are read.
use Rattle.std.proofs.lemmas.Result.{err_from_is_err_and}
use native.Mathlib.Omega.{arith}
use Prim.Native.Nat.{◌/◌, ◌<◌}
use lib.ListN.{length}
use Rattle.encoding.proofs.Cuts.{chunk_read}
use Rattle.record.specs.StepRecords.{step_record}
use Rattle.tree.specs.Shape.{shape_for}
use Rattle.steps.proofs.Limits.{allowed_most}
use Rattle.calls.proofs.CallAccepted.{settings_operations}
use Rattle.forecast.proofs.Settings.{formed_slot}
use Rattle.forecast.proofs.ReadSoFar.{Tested, read_none, read_all, read_refused, read_slot, read_fewer, read_more}
use Rattle.forecast.proofs.begins.begins_refusal.Goals.{After-planned_refusal, In_ok-planned_refusal}
use Rattle.forecast.proofs.begins.begins_refusal.Goals as goal

-- a record that was tested
abbrev IsTested : After-planned_refusal → Type 0
IsTested c = let start = c.args in
    let at-loop = c.loop-bytes in
    Tested (shape_for start.p start.l) start.begins.now at-loop.begun at-loop.bytes-index c.from-x.result c.planned_refusal.result

-- the record's place is one of them
more_at : (c : After-planned_refusal) → c.loop-bytes.bytes-index < length c.args.begins.now / 8
more_at c = omega (arith, c.loop-bytes-test.true, c.as_chunks.ensures.front_len)

tested_at : (c : After-planned_refusal) → IsTested c
tested_at c = record {
  so_far = c.loop-bytes.invariant;
  more = more_at c;
  is = chunk_read step_record 8 _ _ c.args.begins.now _ _ _ c.as_chunks.ensures.front (more_at c) c.from-x.ensures;
  slot = formed_slot c.args.p c.args.l c.requires c.from-x.result;
  told = c.planned_refusal.ensures;
}

pub loop-bytes-init : goal.loop-bytes-init
loop-bytes-init c = read_none _ _

pub planned_refusal-requires : goal.planned_refusal-requires
planned_refusal-requires c = (c.requires, c.loop-bytes.invariant.sized)

pub returns-in_err-planned_refusal : goal.returns-in_err-planned_refusal
returns-in_err-planned_refusal c =
    let p = err_from_is_err_and c.from_residual.result c.from_residual.ensures.1 in
    rw (p.1, p.2) (read_refused (tested_at (goal.at.returns-in_err-planned_refusal c).After-planned_refusal) _ c.in_err-planned_refusal.was)

pub bounds-begun-k : goal.bounds-begun-k
bounds-begun-k c =
    let r = read_slot (tested_at (goal.at.bounds-begun-k c).After-planned_refusal) c.in_ok-planned_refusal.was in
    omega (arith, r)

pub overflow_add-begun : goal.overflow_add-begun
unfolding shape_for
overflow_add-begun c =
    (omega (arith, read_fewer (tested_at (goal.at.overflow_add-begun c).After-planned_refusal) c.in_ok-planned_refusal.was, (allowed_most c.args.l (settings_operations c.args.p c.args.l c.requires)).1))

pub bounds-begun-k-in-loop-bytes : goal.bounds-begun-k-in-loop-bytes
bounds-begun-k-in-loop-bytes c =
    let r = read_slot (tested_at (goal.at.bounds-begun-k-in-loop-bytes c).After-planned_refusal) c.in_ok-planned_refusal.was in
    omega (arith, r)

pub loop-bytes-preserved : goal.loop-bytes-preserved
loop-bytes-preserved c = (read_more (tested_at (goal.at.loop-bytes-preserved c).After-planned_refusal) c.in_ok-planned_refusal.was)

pub returns : goal.returns
returns c = read_all _ _ _ _ c.loop-bytes.invariant (omega (arith, c.loop-bytes-test.false, c.as_chunks.ensures.front_len))
