-- `layout::height_in` meets its contract.
use native.Mathlib.Omega.{arith}
use mathlib.Core.Path.{sym}
use Rattle.tree.proofs.Heights.{height_low}
use Rattle.tree.proofs.LayoutSums.{height_zero, height_above}
use Rattle.table.proofs.Powers.{shifted}
use Rattle.table.proofs.layout.+height_in.Goals as goal

pub returns-then-h-eq0 : goal.returns-then-h-eq0
returns-then-h-eq0 t c = (sym (height_zero c.args.h c.args.v c.if-h-eq0.true), omega arith)

pub returns-then-v-h : goal.returns-then-v-h
returns-then-v-h t c =
    let s = shifted 1 c.args.h (omega arith) c.requires in
    let e = height_above c.args.h c.args.v c.if-h-eq0.false (omega (arith, s.0, c.if-v-h.true)) in
    (omega (arith, e, c.height_in.ensures.0), omega arith)

pub returns-else-v-h : goal.returns-else-v-h
returns-else-v-h t c =
    let s = shifted 1 c.args.h (omega arith) c.requires in
    (sym (height_low c.args.h c.args.v (omega (arith, s.0, c.if-v-h.false))), omega arith)
