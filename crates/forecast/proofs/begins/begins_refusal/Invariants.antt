-- `begins::begins_refusal` meets its contract. The loop's invariant: the records before the next are read.
use Rattle.tree.specs.Shape.{shape_for}
use Rattle.forecast.proofs.ReadSoFar.{ReadSoFar}
use Rattle.forecast.proofs.begins.begins_refusal.Given as goal

abbrev pub invariant-loop-bytes : goal.invariant-loop-bytes
invariant-loop-bytes l = ReadSoFar (shape_for l.p l.l) l.begins l.begun l.bytes-index
