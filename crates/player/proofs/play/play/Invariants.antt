-- The loop of `play`: its invariant is `LoopInvariant`, its measure what is left of the records.
use Rattle.player.proofs.LoopInvariant.{LoopInvariant}
use Rattle.player.proofs.play.play.Given as goal

abbrev pub invariant-loop-i : goal.invariant-loop-i
invariant-loop-i l =
    LoopInvariant
    (record { tree = l.layout; p = l.p; records = l.records; heads = l.initial.heads; table = l.initial.table; room = l.room; out = l.initial.out; log = l.log })
    (record { heads = l.heads; table = l.table; out = l.out; procs = l.procs; answers = l.answers; equal = l.equal; left = l.free })
    l.i
