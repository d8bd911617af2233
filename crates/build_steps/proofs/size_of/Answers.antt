-- `build_steps::size_of` meets its contract.
use borrow.Author.Tests.{eq-eqb, ne_eqb}
use Rattle.tree.specs.Shape.{root}
use Rattle.tree.specs.Clauses.Access.{totals_of}
use Rattle.steps.specs.Rules.{built}
use Rattle.build_steps.proofs.size_of.Goals as goal

pub size_at_root-size-requires : goal.size_at_root-size-requires
size_at_root-size-requires c = let p = c.requires.0.place in rw c.if-w-eq1.true at p

pub root_size-requires : goal.root_size-requires
unfolding root totals_of
root_size-requires c =
    let p = c.requires in
    let here = c.if-w-eq1.true in
    rw (c.size_at_root-size.ensures, p.1) (p.0.puts_rise, p.0.takes_rise, (let l = p.0.size_low here in rw here at l), p.0.puts_low)

pub returns-then-w-eq1 : goal.returns-then-w-eq1
unfolding root built
returns-then-w-eq1 c = λ l r.
    let here = c.if-w-eq1.true in
    rw (eq-eqb _ _ here) (c.root_size.ensures _ c.requires.1 (rw here c.size_at_root-size.ensures))

pub returns : goal.returns
unfolding root built
returns c = λ l r. rw (ne_eqb _ _ c.if-w-eq1.false)
