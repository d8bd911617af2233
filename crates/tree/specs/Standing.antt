-- Where an operation stands: its root block, and its number there.
use Rattle.std.specs.Prelude.{ℕ, suc, ◌+◌, Bool, ◌&&◌, List, [], ◌∷◌, ltb, eqb, if◌then◌else◌}
use Rattle.base.specs.Between.{between}
use Rattle.tree.specs.declared.Kind.TheVariants.{Puts, Takes}
use Rattle.tree.specs.Shape.{Shape}
use Rattle.tree.specs.Order.{OpId, in_root, last_root}

-- two names of one operation
unfoldable pub same : OpId → OpId → Bool
same x y = eqb x.process y.process && eqb x.serial y.serial

-- how often x is in a list
unfoldable pub times : OpId → List OpId → ℕ
times x [] = 0
times x (y ∷ ys) = let r = times x ys in if same x y then suc r else r

-- how often x stands in root block b: once for each time that opening b's puts or takes gives it
unfoldable pub stands_in : Shape → List ℕ → OpId → ℕ → ℕ
stands_in s t x b = times x (in_root s t Puts b) + times x (in_root s t Takes b)

-- the first number in a list that passes a test, or 0
unfoldable pub first_of : (ℕ → Bool) → List ℕ → ℕ
first_of f [] = 0
first_of f (n ∷ ns) = let r = first_of f ns in if f n then n else r

-- the root block of an operation: the first that it stands in, or 0
unfoldable pub root_block_of : Shape → List ℕ → OpId → ℕ
root_block_of s t x = first_of (λ b. ltb 0 (stands_in s t x b)) (between 0 (last_root s t))

-- the number of an operation in a list, from 1, or 0
unfoldable pub rank_in : OpId → List OpId → ℕ
rank_in x [] = 0
rank_in x (y ∷ ys) = let r = rank_in x ys in if same x y then 1 else (if eqb r 0 then 0 else suc r)
