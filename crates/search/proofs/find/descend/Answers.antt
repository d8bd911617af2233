-- `find::descend` meets its contract.
use Prim.Native.Nat.{◌+◌}
use native.Mathlib.Omega.{arith}
use borrow.Author.Tests.{le-leb, lt-leb}
use Rattle.search.specs.Clauses.Descending.{descent_of}
use Rattle.search.proofs.find.descend.Goals as goal

pub returns-then-n-left : goal.returns-then-n-left
unfolding descent_of
returns-then-n-left c =
    let n = c.args.n in
    let left = c.block_at-left.result.puts in
    let right = c.block_at-right.result.puts in
    rw (
      ← c.block_at-here.ensures,
      ← c.block_at-before.ensures,
      ← c.block_at-left.ensures,
      ← c.block_at-right.ensures,
      le-leb n (left + right) (omega (arith, c.if-n-left.true)),
    )

pub returns : goal.returns
unfolding descent_of
returns c =
    let n = c.args.n in
    let left = c.block_at-left.result.puts in
    let right = c.block_at-right.result.puts in
    rw (
      ← c.block_at-here.ensures,
      ← c.block_at-before.ensures,
      ← c.block_at-left.ensures,
      ← c.block_at-right.ensures,
      lt-leb n (left + right) (omega (arith, c.if-n-left.false)),
    )
