-- Shifts by the height of a node: no bit is lost.
use Prim.Native.Nat.{ℕ, ◌*◌, ◌^◌, ◌%◌, ◌≤◌}
use native.Mathlib.Omega.{arith}
use mathlib.Core.Path.{◌≡◌}
use lib.Pow.{pow_mono}
use Rattle.tree.proofs.LayoutSums.{product_most}

-- a number of at most 500, shifted by at most 3
pub shifted : (x h : ℕ) → x ≤ 500 → h ≤ 3 → (x * 2 ^ h % 18446744073709551616 ≡ x * 2 ^ h) × (x * 2 ^ h ≤ 4000)
shifted x h few low =
    let most = product_most x (2 ^ h) 500 8 few (pow_mono {j = 3} low) in
    (omega (arith, most), omega (arith, most))
