-- `find::find_put` meets its contract. The measure is the height, which each call lowers by one.
use native.Mathlib.Omega.{arith}
use Rattle.search.proofs.FindLaws.{down_ready, down_to, find_place, leaf_found}
use Rattle.search.proofs.find.+find_put.Goals as goal

pub block_at-requires : goal.block_at-requires
block_at-requires t c = find_place c.requires.holds

pub returns-then-height-eq0 : goal.returns-then-height-eq0
returns-then-height-eq0 t c = rw c.block_at.ensures (leaf_found _ _ _ _ _ _ _ c.requires.holds c.if-height-eq0.true)

pub descend-d-requires : goal.descend-d-requires
descend-d-requires t c = down_ready c.requires.holds c.if-height-eq0.false

pub part-requires : goal.part-requires
part-requires t c = (down_to c.requires.holds c.if-height-eq0.false _ c.descend-d.ensures).ready.0

pub first_place-c-requires : goal.first_place-c-requires
first_place-c-requires t c =
    rw c.part.ensures.part ((down_to c.requires.holds c.if-height-eq0.false _ c.descend-d.ensures).ready.1)

pub find_put-requires : goal.find_put-requires
find_put-requires t c =
    let d = down_to c.requires.holds c.if-height-eq0.false _ c.descend-d.ensures in
    (omega arith, record { one = c.requires.one; holds = d.finds _ (rw c.part.ensures.part at c.first_place-c.ensures) })

pub returns : goal.returns
returns t c =
    let d = down_to c.requires.holds c.if-height-eq0.false _ c.descend-d.ensures in
    d.found _ (rw c.part.ensures.part at c.first_place-c.ensures) _ c.find_put.ensures
