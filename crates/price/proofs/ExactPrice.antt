-- The price of a sheet is exact, and no other is.
use Prim.Native.Nat.{ℕ, zero, suc, ◌/◌, ◌%◌, ◌≤◌, ◌<◌}
use native.Mathlib.Omega.{arith}
use mathlib.Core.Path.{◌≡◌, refl, ap, sym}
use mathlib.Core.Bool.{Bool, true, false}
use mathlib.Core.List.{List, [], ◌∷◌}
use lib.ListN.{length}
use lib.Dec.{leb}
use borrow.Author.Tests.{leb-true, leb-false}
use Rattle.std.specs.Prelude.{if◌then◌else◌}
use Rattle.base.proofs.Cases.{both, cases}
use Rattle.base.proofs.Sums.{sum_same}
use Rattle.price.specs.declared.Band.{Band}
use Rattle.price.specs.Sheet.{band_of}
use Rattle.price.specs.Price.{delivery_price, total_price}
use Rattle.price.specs.Exact.{FallsIn, Exact}

-- ---- the band of a delivery

unfoldable band_number : List Band → ℕ → ℕ
band_number [] n = 0
band_number (b ∷ []) n = 0
band_number (b ∷ c ∷ bs) n = if leb n b.last then 0 else suc (band_number (c ∷ bs) n)

is_band_lem : (bs : List Band) (n : ℕ) → 1 ≤ length bs → band_number bs n < length bs
unfolding band_number
is_band_lem [] n h = absurd (omega arith)
is_band_lem (b ∷ []) n h = omega arith
is_band_lem (b ∷ c ∷ bs) n h = both (λ (i : ℕ). i < length (b ∷ c ∷ bs)) (leb n b.last) (omega arith) (omega (arith, is_band_lem (c ∷ bs) n (omega arith)))

past_others : (bs : List Band) (n j : ℕ) → j < band_number bs n → (band_of bs j).last < n
unfolding band_number
past_others [] n j l = absurd (omega arith)
past_others (b ∷ []) n j l = absurd (omega arith)
past_others (b ∷ c ∷ bs) n zero l =
    cases (λ (i : ℕ). 0 < i → b.last < n) (leb n b.last) (λ e m. absurd (omega arith)) (λ e m. leb-false n b.last e) l
past_others (b ∷ c ∷ bs) n (suc j) l =
    cases (λ (i : ℕ). suc j < i → (band_of (c ∷ bs) j).last < n) (leb n b.last) (λ e m. absurd (omega arith)) (λ e m. past_others (c ∷ bs) n j (omega arith)) l

not_past_lem : (bs : List Band) (n : ℕ) → suc (band_number bs n) < length bs → n ≤ (band_of bs (band_number bs n)).last
unfolding band_number
not_past_lem [] n l = absurd (omega arith)
not_past_lem (b ∷ []) n l = absurd (omega arith)
not_past_lem (b ∷ c ∷ bs) n l =
    cases (λ (i : ℕ). suc i < length (b ∷ c ∷ bs) → n ≤ (band_of (b ∷ c ∷ bs) i).last) (leb n b.last)
    (λ e m. leb-true n b.last e) (λ e m. not_past_lem (c ∷ bs) n (omega arith)) l

falls : (bs : List Band) (n : ℕ) → 1 ≤ length bs → FallsIn bs n (band_number bs n)
falls bs n h =
    record {
      is_band = is_band_lem bs n h;
      past = λ j l. omega (arith, past_others bs n j (omega arith));
      not_past = λ l. omega (arith, not_past_lem bs n (omega arith));
    }

price_is_lem : (bs : List Band) (n : ℕ) → (band_of bs (band_number bs n)).price ≡ delivery_price bs n
unfolding band_number delivery_price
price_is_lem [] n = refl
price_is_lem (b ∷ []) n = refl
price_is_lem (b ∷ c ∷ bs) n = on (leb n b.last) (price_is_lem (c ∷ bs) n)
  where
    on : (t : Bool) → (band_of (c ∷ bs) (band_number (c ∷ bs) n)).price ≡ delivery_price (c ∷ bs) n
        → (band_of (b ∷ c ∷ bs) (if t then 0 else suc (band_number (c ∷ bs) n))).price ≡ (if t then b.price else delivery_price (c ∷ bs) n)
    on true below = refl
    on false below = below

-- in no two bands
not_later : (bs : List Band) (n i j : ℕ) → FallsIn bs n i → FallsIn bs n j → i < j → ⊥
not_later bs n i j f g l = omega (arith, g.past i l, f.not_past (omega (arith, g.is_band)))

pub falls_once : (bs : List Band) (n i j : ℕ) → FallsIn bs n i → FallsIn bs n j → i ≡ j
falls_once bs n i j f g = omega (arith, not_later bs n i j f g, not_later bs n j i g f)

-- ---- prices

-- cents and remainder of the sum
pub exact : (bs : List Band) (count : ℕ) → 1 ≤ length bs → Exact bs count (total_price bs count / 100) (total_price bs count % 100)
unfolding total_price
exact bs count h =
    record {
      falls_in = band_number bs;
      falls = λ n f l. falls bs n h;
      sum_of = omega (arith, sum_same (λ i. delivery_price bs (suc i)) (λ i. (band_of bs (band_number bs (suc i))).price) count (λ i l. sym (price_is_lem bs (suc i))));
      below = omega arith;
    }

-- two exact prices are the same
pub exact_once : (bs : List Band) (count c d r s : ℕ) → Exact bs count c r → Exact bs count d s → (c ≡ d) × (r ≡ s)
exact_once bs count c d r s e f =
    let same = sum_same (λ i. (band_of bs (e.falls_in (suc i))).price) (λ i. (band_of bs (f.falls_in (suc i))).price) count
    (λ i l. ap (λ k. (band_of bs k).price) (falls_once bs (suc i) _ _ (e.falls (suc i) (omega arith) (omega arith)) (f.falls (suc i) (omega arith) (omega arith)))) in
    (omega (arith, e.sum_of, e.below, f.sum_of, f.below, same), omega (arith, e.sum_of, e.below, f.sum_of, f.below, same))
