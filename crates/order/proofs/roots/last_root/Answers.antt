-- `roots::last_root` meets its contract.
use native.Mathlib.Omega.{arith}
use Rattle.order.proofs.LastBlock.{root_head, root_part, head_first, last_at_head, last_before_head}
use Rattle.order.proofs.roots.last_root.Goals as goal

pub head_of-head-requires : goal.head_of-head-requires
head_of-head-requires c = root_head c.requires

pub absent_at-requires : goal.absent_at-requires
absent_at-requires c =
    let p = root_part c.requires in
    record { low = p.low; node = λ n. p; lacking = λ n. absurd (omega (arith, p.node)) }

pub overflow_sub-result : goal.overflow_sub-result
overflow_sub-result c = rw c.head_of-head.ensures (head_first c.requires)

pub returns-then-absent_at : goal.returns-then-absent_at
returns-then-absent_at c =
    let e = c.head_of-head.ensures in
    rw e (last_before_head c.requires (rw (← e, ← c.absent_at.ensures.value (root_part c.requires).node) c.if-absent_at.true))

pub returns : goal.returns
returns c =
    let e = c.head_of-head.ensures in
    rw e (last_at_head c.requires (rw (← e, ← c.absent_at.ensures.value (root_part c.requires).node) c.if-absent_at.false))
