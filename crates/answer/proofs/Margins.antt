-- Laws of the margin.
use Prim.Native.Nat.{ℕ, zero, suc, ◌+◌, ◌-◌}
use mathlib.Core.Path.{◌≡◌, refl, sym, ◌∙◌}
use mathlib.Core.Bool.{Bool, true, false, cond, true≢false}
use native.Mathlib.Omega.{arith}
use borrow.Author.Tests.{ltb-true, le-ltb}
use lib.Dec.{ltb}
use lib.IntN.{ℤ, pos, negsuc, ◌+ℤ◌, ◌-ℤ◌}
use lib.Signed.{lt_z}
use Rattle.record.specs.declared.Reply.TheVariants.{Value, Nothing}
use Rattle.calls.specs.Answer.{by_margin}

below_by : (a b : ℕ) (t : Bool) → ltb a (suc b) ≡ t → lt_z (cond t (negsuc (suc b - suc a)) (pos (a - suc b))) (pos 0) ≡ t
below_by a b true e = refl
below_by a b false e = le-ltb (a - suc b) 0 (omega arith)

-- a margin is below 0 exactly where there are fewer values than takes up to this one
pub margin_below : (size puts i : ℕ) → lt_z (pos size +ℤ pos puts -ℤ pos i) (pos 0) ≡ ltb (size + puts) i
margin_below size puts zero = le-ltb (size + puts + 0) 0 (omega arith) ∙ sym (le-ltb (size + puts) 0 (omega arith))
margin_below size puts (suc i) = below_by (size + puts) i (ltb (size + puts) (suc i)) refl

-- what a take replies, by the test whether its margin is below 0
pub by_below : (z : ℤ) (v : ℕ) → lt_z z (pos 0) ≡ true → by_margin z v ≡ Nothing
unfolding by_margin
by_below (pos n) v e = absurd (omega (arith, ltb-true n 0 e))
by_below (negsuc n) v e = refl

pub by_rest : (z : ℤ) (v : ℕ) → lt_z z (pos 0) ≡ false → by_margin z v ≡ Value v
unfolding by_margin
by_rest (pos n) v e = refl
by_rest (negsuc n) v e = absurd (true≢false e)
