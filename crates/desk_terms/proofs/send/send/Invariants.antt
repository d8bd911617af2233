-- `send::send` meets its contract. The loop's invariant: the bytes of the first i terms are stored.
use Rattle.desk_terms.proofs.Sent.{SentFirst}
use Rattle.desk_terms.proofs.send.send.Given as goal

abbrev pub invariant-loop-i : goal.invariant-loop-i
invariant-loop-i l = SentFirst l.terms l.initial.output l.output l.i
