-- Laws of sums.
use Prim.Native.Nat.{ℕ, zero, suc, ◌+◌, ◌-◌, ◌*◌, ◌≤◌, ◌<◌}
use native.Mathlib.Omega.{arith}
use native.Mathlib.Decide.{ℕ_discrete}
use mathlib.Core.Path.{◌≡◌, refl, ap}
use mathlib.Core.Logic.{◌≢◌}
use Rattle.base.specs.Sums.{sum}

pub sum_same : (f g : ℕ → ℕ) (n : ℕ) → ((i : ℕ) → i < n → f i ≡ g i) → sum f n ≡ sum g n
unfolding sum
sum_same f g zero same = refl
sum_same f g (suc n) same = omega (arith, same n (omega arith), sum_same f g n (λ i l. same i (omega arith)))

-- one number is changed, and no other
pub sum_change : (f g : ℕ → ℕ) (n k : ℕ) → k < n → ((i : ℕ) → i ≢ k → f i ≡ g i) → sum g n + f k ≡ sum f n + g k
unfolding sum
sum_change f g zero k l others = absurd (omega arith)
sum_change f g (suc n) k l others = on (ℕ_discrete k n) (λ h. sum_change f g n k h others)
  where
    on : Dec (k ≡ n) → (k < n → sum g n + f k ≡ sum f n + g k) → g n + sum g n + f k ≡ f n + sum f n + g k
    on (yes e) below = omega (arith, ap f e, ap g e, sum_same f g n (λ i l. others i (λ z. omega arith)))
    on (no e) below = omega (arith, below (omega arith), others n (λ z. e (omega arith)))

-- no number is above a limit
pub sum_most : (f : ℕ → ℕ) (n most : ℕ) → ((i : ℕ) → i < n → f i ≤ most) → sum f n ≤ n * most
unfolding sum
sum_most f zero most within = omega arith
sum_most f (suc n) most within = omega (arith, within n (omega arith), sum_most f n most (λ i l. within i (omega arith)))

-- each is at most the sum
pub sum_part : (f : ℕ → ℕ) (n k : ℕ) → k < n → f k ≤ sum f n
unfolding sum
sum_part f zero k l = absurd (omega arith)
sum_part f (suc n) k l = on (ℕ_discrete k n) (λ h. sum_part f n k h)
  where
    on : Dec (k ≡ n) → (k < n → f k ≤ sum f n) → f k ≤ f n + sum f n
    on (yes e) below = omega (arith, ap f e)
    on (no e) below = omega (arith, below (omega arith))

-- from n to m each number is the same
pub sum_level : (f : ℕ → ℕ) (c n m : ℕ) → n ≤ m → ((i : ℕ) → n ≤ i → i < m → f i ≡ c) → sum f m ≡ sum f n + (m - n) * c
unfolding sum
sum_level f c n zero h level = let none : n ≡ 0 = omega arith in rw none (omega arith)
sum_level f c n (suc m) h level = on (ℕ_discrete n (suc m)) (λ l. sum_level f c n m l (λ i a b. level i a (omega arith)))
  where
    on : Dec (n ≡ suc m) → (n ≤ m → sum f m ≡ sum f n + (m - n) * c) → f m + sum f m ≡ sum f n + (suc m - n) * c
    on (yes e) below = let none : suc m - n ≡ 0 = omega arith in rw (none, e) (omega arith)
    on (no e) below =
        let one_more : suc m - n ≡ suc (m - n) = omega arith in
        rw one_more (omega (arith, below (omega arith), level m (omega arith) (omega arith)))
