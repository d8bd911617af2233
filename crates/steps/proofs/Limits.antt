-- What the limits on p and L say of the tree.
use Rattle.std.specs.Prelude.{if◌then◌else◌}
use Prim.Native.Nat.{ℕ, ◌^◌, ◌≤◌}
use native.Mathlib.Omega.{arith}
use mathlib.Core.Path.{◌≡◌, refl, ap, sym}
use mathlib.Core.Bool.{Bool, true, false, ◌||◌, false≢true}
use lib.Dec.{eqb, leb}
use borrow.Author.Tests.{eqb-true, leb-true}
use Rattle.base.proofs.Cases.{and-true, both}
use Rattle.tree.specs.Shape.{processes, height_for, shape_for}
use Rattle.tree.specs.Layout.{words_needed}
use Rattle.tree.proofs.Places.{processes_most}
use Rattle.steps.specs.Process.{processes_allowed, operations_allowed}

-- L is 1 to 500
pub allowed_most : (l : ℕ) → operations_allowed l ≡ true → (1 ≤ l) × (l ≤ 500)
unfolding operations_allowed
allowed_most l e = let h = and-true (leb 1 l) (leb l 500) e in (leb-true _ _ h.0, leb-true _ _ h.1)

-- the tree for p processes has that many leaves
width_by : (p : ℕ) (a b c : Bool) → eqb p 2 ≡ a → eqb p 4 ≡ b → eqb p 8 ≡ c → (a || b || c) ≡ true → 2 ^ (if a then 1 else (if b then 2 else 3)) ≡ p
width_by p true b c x y z e = sym (eqb-true _ _ x)
width_by p false true c x y z e = sym (eqb-true _ _ y)
width_by p false false true x y z e = sym (eqb-true _ _ z)
width_by p false false false x y z e = absurd (false≢true e)

pub allowed_width : (p l : ℕ) → processes_allowed p ≡ true → processes (shape_for p l) ≡ p
unfolding processes_allowed processes shape_for height_for
allowed_width p l e = width_by p (eqb p 2) (eqb p 4) (eqb p 8) refl refl refl e

-- its height is at most 3
pub short_for : (p l : ℕ) → (shape_for p l).height ≤ 3
unfolding shape_for height_for
short_for p l = both (λ (x : ℕ). x ≤ 3) (eqb p 2) (omega arith) (both (λ (x : ℕ). x ≤ 3) (eqb p 4) (omega arith) (omega arith))

-- so p is at most 8
pub allowed_narrow : (p l : ℕ) → processes_allowed p ≡ true → p ≤ 8
allowed_narrow p l e = omega (arith, allowed_width p l e, processes_most (shape_for p l) (short_for p l))
