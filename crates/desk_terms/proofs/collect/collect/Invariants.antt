-- `collect::collect` meets its contract. The loop's invariant: the terms of the orders passed are collected.
use mathlib.Core.Path.{◌≡◌}
use lib.ListN.{length}
use Rattle.desk_terms.proofs.Collected.{CollectedFirst}
use Rattle.desk_terms.proofs.collect.collect.Given as goal

abbrev pub invariant-loop-bytes : goal.invariant-loop-bytes
invariant-loop-bytes l = CollectedFirst l.l l.order l.received l.terms l.count l.bytes-index × (length l.terms ≡ length l.initial.terms)
