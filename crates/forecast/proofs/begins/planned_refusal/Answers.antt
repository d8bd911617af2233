-- `begins::planned_refusal` meets its contract.
use native.Mathlib.Omega.{arith}
use borrow.Author.Tests.{ne_eqb, le-leb, lt-leb}
use Rattle.record.specs.StepRecords.{is_step}
use Rattle.tree.specs.Shape.{shape_for}
use Rattle.calls.specs.Forecast.{planned_refusal}
use Rattle.forecast.proofs.Settings.{formed_as, formed_slot}
use Rattle.forecast.proofs.begins.planned_refusal.Goals as goal

pub returns-then-ill : goal.returns-then-ill
unfolding planned_refusal
returns-then-ill c = rw (formed_as _ _ c.requires.0 _ c.is_ill_formed-ill.ensures c.if-ill.true)

pub returns-then-step : goal.returns-then-step
unfolding planned_refusal is_step
returns-then-step c =
    rw (formed_as _ _ c.requires.0 _ c.is_ill_formed-ill.ensures c.if-ill.false, c.if-step.true)

pub bounds-begun-x : goal.bounds-begun-x
bounds-begun-x c =
    let formed = formed_as _ _ c.requires.0 _ c.is_ill_formed-ill.ensures c.if-ill.false in
    omega (arith, c.requires.1, formed_slot _ _ c.requires.0 _ formed)

pub returns-then-l-begun : goal.returns-then-l-begun
unfolding planned_refusal is_step shape_for
returns-then-l-begun c =
    let formed = formed_as _ _ c.requires.0 _ c.is_ill_formed-ill.ensures c.if-ill.false in
    rw (formed, ne_eqb _ _ c.if-step.false, le-leb _ _ c.if-l-begun.true)

pub returns : goal.returns
unfolding planned_refusal is_step shape_for
returns c =
    let formed = formed_as _ _ c.requires.0 _ c.is_ill_formed-ill.ensures c.if-ill.false in
    rw (formed, ne_eqb _ _ c.if-step.false, lt-leb _ _ c.if-l-begun.false)
