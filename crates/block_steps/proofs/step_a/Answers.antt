-- `block_steps::step_a` meets its contract.
use mathlib.Core.Path.{refl}
use Rattle.tree.specs.Memory.{head_of, block, write}
use Rattle.steps.specs.Rules.{step, go}
use Rattle.block_steps.proofs.step_a.Goals as goal

pub plus_operation-new-requires : goal.plus_operation-new-requires
plus_operation-new-requires c =
    let p = c.requires.adds in
    rw (c.block_at-old.ensures, c.head_of-h.ensures) (p.puts, p.takes)

pub returns : goal.returns
unfolding step go head_of write block
returns c =
    rw c.moved.ensures (
      refl,
      λ k own.
          rw (
            ← own,
            c.advance.ensures,
            c.write_at.ensures,
            c.plus_operation-new.ensures,
            c.operation_in.ensures,
            c.block_at-old.ensures,
            c.head_of-h.ensures,
          ),
    )
