-- `layout::Tree::processes` meets its contract.
use Prim.Native.Nat.{ℕ, ◌^◌, ◌≤◌}
use native.Mathlib.Omega.{arith}
use lib.Pow.{pow_mono}
use Rattle.tree.specs.Shape.{processes}
use Rattle.table.proofs.layout.Tree.processes.Goals as goal

pub returns : goal.returns
unfolding processes
returns c =
    let h : ℕ = c.self.inside.height in
    let least : 2 ^ 1 ≤ 2 ^ h = pow_mono {i = 1} {j = h} c.self.invariant.0 in
    let most : 2 ^ h ≤ 2 ^ 3 = pow_mono {i = h} {j = 3} c.self.invariant.1 in
    rw (← c.self.view_is) (omega (arith, most), omega (arith, least, most), omega (arith, most))
