-- `collect::collect` meets its contract. The loop's invariant: the terms of the orders passed are collected.
use native.Mathlib.Omega.{arith}
use mathlib.Core.Path.{refl, sym, ◌∙◌}
use lib.ListN.{length, get_or, length-set}
use borrow.Author.Rules.{rules}
use borrow.Author.Tests.{leb-true}
use Rattle.record.specs.declared.OrderRecord.{OrderRecord}
use Rattle.record.specs.ReadOrders.{read_order}
use Rattle.encoding.proofs.Cuts.{read_member}
use Rattle.desk_rules.specs.Entries.{first_entry, is_entry, term_of}
use Rattle.desk_terms.specs.Clauses.Slots.{HasSlot}
use Rattle.desk_terms.proofs.Collected.{collected_none, collected_all, collected_entry, collected_other}
use Rattle.desk_terms.proofs.collect.collect.Goals.{After-from-x, then-is_entry, else-is_entry}
use Rattle.desk_terms.proofs.collect.collect.Goals as goal

pub loop-bytes-init : goal.loop-bytes-init
loop-bytes-init c = (collected_none _ _ _ _, refl)

-- the next operation has a slot
abbrev AtSlot : After-from-x → Type 0
AtSlot c = let start = c.args in
    HasSlot start.l (length start.received.now) c.from-x.result.process c.from-x.result.serial

slot_at : (c : After-from-x) → AtSlot c
slot_at c = read_member read_order c.args.order.now
    (λ (x : OrderRecord). HasSlot c.args.l (length c.args.received.now) x.process x.serial) c.requires.slots
    c.loop-bytes.bytes-index c.loop-bytes-test.true _ _ c.from-x.ensures

pub slot_of-slot-requires : goal.slot_of-slot-requires
slot_of-slot-requires c = (c.requires.room.0, (slot_at (goal.at.slot_of-slot-requires c).After-from-x).first)

pub offset_bounds-received-slot : goal.offset_bounds-received-slot
offset_bounds-received-slot c = omega (arith, c.slot_of-slot.ensures, (slot_at (goal.at.offset_bounds-received-slot c).After-from-x).below)

pub bounds-received-slot : goal.bounds-received-slot
bounds-received-slot c = rw c.slot_of-slot.ensures (slot_at (goal.at.bounds-received-slot c).After-from-x).below

pub overflow_sub-terms : goal.overflow_sub-terms
unfolding is_entry first_entry
overflow_sub-terms c =
    let value = get_or c.args.received.now c.slot_of-slot.result 0 in
    omega (arith, leb-true 2147483648 value (sym c.is_entry.ensures ∙ c.if-is_entry.true))

pub loop-bytes-preserved : goal.loop-bytes-preserved
unfolding term_of first_entry
loop-bytes-preserved c =
    let at = c.loop-bytes in
    let more = c.loop-bytes-test.true in
    let is = c.from-x.ensures in
    let slot = c.slot_of-slot.ensures in
    let entry = sym c.is_entry.ensures in
    elim c.if-is_entry.branch [
      | then-is_entry w ↦ rw (w.terms-is, w.count-is) (collected_entry _ _ _ _ _ _ at.invariant.0 more _ _ is _ slot (omega arith) (entry ∙ w.if-is_entry.true), simp length-set at.invariant.1)
      | else-is_entry w ↦ rw (w.terms-is, w.count-is) (collected_other _ _ _ _ _ _ at.invariant.0 more _ _ is _ slot (entry ∙ w.if-is_entry.false), at.invariant.1)
    ]

pub shape_of-terms : goal.shape_of-terms
shape_of-terms c = c.loop-bytes.invariant.1

pub returns : goal.returns
returns c = (search rules, collected_all _ _ _ _ _ _ c.loop-bytes.invariant.0 c.loop-bytes-test.false)
