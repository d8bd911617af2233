-- `receive::receive` meets its contract. The loop's invariant: the answers behind those that are left are entered.
use Rattle.std.specs.Slice.Iter.{iter_rest}
use Rattle.std.specs.Iterator.Adapters.{rev_source}
use Rattle.desk_terms.proofs.Entered.{EnteredBehind}
use Rattle.desk_terms.proofs.receive.receive.Given as goal

abbrev pub invariant-loop-bytes : goal.invariant-loop-bytes
invariant-loop-bytes l = EnteredBehind l.l l.answers l.initial.received l.received (iter_rest (rev_source l.bytes-iterator))
