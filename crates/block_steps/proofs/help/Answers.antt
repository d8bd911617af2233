-- `block_steps::help` meets its contract.
use native.Mathlib.Omega.{arith}
use Rattle.tree.specs.Memory.{block}
use Rattle.steps.specs.Rules.{help}
use Rattle.block_steps.proofs.help.Goals as goal

pub absent_at-requires : goal.absent_at-requires
absent_at-requires c =
    let p = c.requires.0 in
    record { low = p.low; node = λ n. p; lacking = λ n. absurd (omega (arith, p.node)) }

pub returns-then-absent_at : goal.returns-then-absent_at
unfolding help block
returns-then-absent_at c = λ heads. rw (← c.absent_at.ensures.value c.requires.0.node, c.if-absent_at.true) c.after_child.ensures

pub returns : goal.returns
unfolding help block
returns c = λ heads. rw (← c.absent_at.ensures.value c.requires.0.node, c.if-absent_at.false) c.advance.ensures
