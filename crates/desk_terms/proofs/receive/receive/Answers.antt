-- `receive::receive` meets its contract. The loop's invariant: the answers behind those that are left are entered.
use native.Mathlib.Omega.{arith}
use lib.ListN.{length}
use Rattle.desk_terms.specs.Clauses.Slots.{HasSlot}
use Rattle.desk_terms.proofs.Entered.{entered_none, entered_more, entered_slot}
use Rattle.desk_terms.proofs.receive.receive.Goals.{After-from-a}
use Rattle.desk_terms.proofs.receive.receive.Goals as goal

pub loop-bytes-init : goal.loop-bytes-init
loop-bytes-init c =
    rw (c.into_iter-bytes-iterator.ensures.into_iter_gives, c.rev-bytes-items.ensures.source, c.iter.ensures.rest) (entered_none _ _ _)

-- the next answer's operation has a slot
abbrev AtSlot : After-from-a → Type 0
AtSlot c = let start = c.args in
    HasSlot start.l (length start.received.now) c.from-a.result.process c.from-a.result.serial

slot_at : (c : After-from-a) → AtSlot c
slot_at c = entered_slot _ _ _ _ _ _ _ c.loop-bytes.invariant c.in-Some.ensures.steps _ c.from-a.ensures _ c.requires.slots

pub slot_of-slot-requires : goal.slot_of-slot-requires
slot_of-slot-requires c = (c.requires.small, (slot_at (goal.at.slot_of-slot-requires c).After-from-a).first)

pub offset_bounds-received-slot : goal.offset_bounds-received-slot
offset_bounds-received-slot c = omega (arith, c.slot_of-slot.ensures, (slot_at (goal.at.offset_bounds-received-slot c).After-from-a).below)

pub bounds-received-slot : goal.bounds-received-slot
bounds-received-slot c =
    omega (arith, c.slot_of-slot.ensures, c.loop-bytes.auto.received, (slot_at (goal.at.bounds-received-slot c).After-from-a).below)

pub loop-bytes-preserved : goal.loop-bytes-preserved
loop-bytes-preserved c =
    rw (c.slot_of-slot.ensures, c.value.ensures)
    (entered_more _ _ _ _ _ _ _ c.loop-bytes.invariant c.in-Some.ensures.steps _ c.from-a.ensures)
