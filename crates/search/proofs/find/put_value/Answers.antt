-- `find::put_value` meets its contract.
use Rattle.search.proofs.FindLaws.{root_ready, root_finds, root_value}
use Rattle.search.proofs.find.put_value.Goals as goal

pub part-requires : goal.part-requires
part-requires c = (root_ready _ _ _ _ _ c.requires.holds).0

pub first_place-b-requires : goal.first_place-b-requires
first_place-b-requires c = rw c.part.ensures.part ((root_ready _ _ _ _ _ c.requires.holds).1)

pub find_put-requires : goal.find_put-requires
find_put-requires c =
    let q = c.requires in
    rw c.height.ensures.0 (record { one = q.one; holds = root_finds _ _ _ _ _ q.holds _ (rw c.part.ensures.part at c.first_place-b.ensures) })

pub returns : goal.returns
returns c =
    root_value _ _ _ _ _ c.requires.holds _ (rw c.part.ensures.part at c.first_place-b.ensures) _ (rw c.height.ensures.0 at c.find_put.ensures)
