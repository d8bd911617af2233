-- The first of many equal things are as many equal things.
use Prim.Native.Nat.{ℕ, zero, suc, ◌≤◌}
use native.Mathlib.Omega.{arith}
use mathlib.Core.Path.{◌≡◌, refl, ap}
use mathlib.Core.List.{◌∷◌}
use lib.ListN.{take, replicate}

pub take_replicate : {A : Type 0} (x : A) (n m : ℕ) → n ≤ m → take n (replicate m x) ≡ replicate n x
take_replicate x zero m h = refl
take_replicate x (suc n) zero h = absurd (omega arith)
take_replicate x (suc n) (suc m) h = ap (λ xs. x ∷ xs) (take_replicate x n m (omega arith))
