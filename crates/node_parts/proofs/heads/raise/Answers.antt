-- `heads::raise` meets its contract.
use mathlib.Core.Path.{refl}
use borrow.Author.Tests.{eq-eqb, ne_eqb}
use Rattle.tree.specs.Memory.{head_of, head_is, raise}
use Rattle.node_parts.proofs.heads.raise.Goals as goal

pub returns-then-head_of-h : goal.returns-then-head_of-h
unfolding head_of head_is raise
returns-then-head_of-h c =
    let is = eq-eqb _ _ c.if-head_of-h.true in
    record { head = rw (← c.head_of.ensures, is); told = rw (← c.head_of.ensures, is) }

pub returns : goal.returns
unfolding head_of head_is raise
returns c = let is-not = ne_eqb _ _ c.if-head_of-h.false in rw (← c.head_of.ensures, is-not) record { head = refl; told = refl }
