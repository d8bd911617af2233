-- `total::total_price` meets its contract. The loop's invariant: the bands so far price the deliveries up to their ends.
use Rattle.price.specs.Sheet.{bands}
use Rattle.price.proofs.Priced.{Priced}
use Rattle.price.proofs.total.total_price.Given as goal

abbrev pub invariant-loop-bytes : goal.invariant-loop-bytes
invariant-loop-bytes l = Priced (bands l.sheet) l.count l.bytes-index l.priced l.total
