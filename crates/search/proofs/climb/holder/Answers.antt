-- `climb::holder` meets its contract.
use Rattle.search.proofs.climb.holder.Goals as goal

pub first_place-requires : goal.first_place-requires
first_place-requires c = rw (c.part.ensures.part, c.head_of-last.ensures) c.requires.ends

pub returns : goal.returns
returns c = rw (← c.part.ensures.part, ← c.head_of-last.ensures) c.first_place.ensures
