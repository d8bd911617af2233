-- Bytes compared one by one: the test tells whether two lists are equal.
use Prim.Native.Nat.{ℕ}
use mathlib.Core.Bool.{Bool, true, false, false≢true}
use mathlib.Core.Path.{◌≡◌, refl, ap, ◌∙◌}
use mathlib.Core.List.{List, [], ◌∷◌}
use borrow.Author.Tests.{eqb-true, eq-eqb}
use Rattle.base.proofs.Cases.{and-true}
use Rattle.calls.specs.CheckLog.{same_bytes}

pub same_equal : (xs ys : List ℕ) → same_bytes xs ys ≡ true → xs ≡ ys
unfolding same_bytes
same_equal [] [] e = refl
same_equal [] (y ∷ ys) e = absurd (false≢true e)
same_equal (x ∷ xs) [] e = absurd (false≢true e)
same_equal (x ∷ xs) (y ∷ ys) e =
    let t = and-true _ (same_bytes xs ys) e in
    ap (λ (z : ℕ). z ∷ xs) (eqb-true x y t.0) ∙ ap (λ (l : List ℕ). y ∷ l) (same_equal xs ys t.1)

pub itself_same : (xs : List ℕ) → same_bytes xs xs ≡ true
unfolding same_bytes
itself_same [] = refl
itself_same (x ∷ xs) = rw (eq-eqb x x refl) (itself_same xs)

pub unequal_not_same : (xs ys : List ℕ) → (xs ≡ ys → ⊥) → same_bytes xs ys ≡ false
unequal_not_same xs ys h = told (same_bytes xs ys) (same_equal xs ys)
  where
    told : (b : Bool) → (b ≡ true → xs ≡ ys) → b ≡ false
    told true e = absurd (h (e refl))
    told false e = refl
