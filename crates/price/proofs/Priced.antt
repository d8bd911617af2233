-- The price by bands: what the bands so far make of the deliveries up to their ends.
use Prim.Native.Nat.{ℕ, suc, ◌+◌, ◌-◌, ◌*◌, ◌≤◌, ◌<◌, min}
use native.Mathlib.Omega.{arith}
use mathlib.Core.Path.{◌≡◌, refl, sym, ◌∙◌}
use mathlib.Core.Bool.{true}
use mathlib.Core.List.{List, [], ◌∷◌}
use lib.ListN.{length, drop, drop_of_length-le}
use lib.Dec.{leb}
use borrow.Author.Tests.{leb-true, le-leb, lt-leb}
use Rattle.std.specs.Prelude.{if◌then◌else◌}
use Rattle.base.specs.Sums.{sum}
use Rattle.base.proofs.Cases.{both, and-true}
use Rattle.base.proofs.Sums.{sum_level, sum_most}
use Rattle.price.specs.declared.Band.{Band}
use Rattle.price.specs.Sheet.{band_of, rising, highest_price, prices_allowed}
use Rattle.price.specs.Price.{delivery_price, total_price}
use Rattle.price.proofs.Bands.{from_band}
use Rattle.price.proofs.SheetTests.{rising_at_lem}

-- ---- one delivery

module _ (bs : List Band) (i n : ℕ) where
  price_next : suc i < length bs → delivery_price (drop i bs) n ≡ (if leb n (band_of bs i).last then (band_of bs i).price else delivery_price (drop (suc i) bs) n)
  unfolding delivery_price
  price_next h = rw (from_band bs i (omega arith), from_band bs (suc i) h)

  price_last : suc i ≡ length bs → delivery_price (drop i bs) n ≡ (band_of bs i).price
  unfolding delivery_price
  price_last h = rw (from_band bs i (omega arith), drop_of_length-le bs {i = suc i} (omega arith))

price_most : (bs : List Band) (n : ℕ) → prices_allowed bs ≡ true → delivery_price bs n ≤ 1000000
unfolding prices_allowed highest_price delivery_price
price_most [] n e = omega arith
price_most (b ∷ []) n e = leb-true b.price 1000000 (and-true (leb b.price 1000000) _ e).0
price_most (b ∷ c ∷ bs) n e =
    let h = and-true (leb b.price 1000000) _ e in
    both (λ (x : ℕ). x ≤ 1000000) (leb n b.last) (leb-true b.price 1000000 h.0) (price_most (c ∷ bs) n h.1)

-- ---- their sum

-- no more than 1,000,000 each
pub total_most : (bs : List Band) (n : ℕ) → prices_allowed bs ≡ true → total_price bs n ≤ n * 1000000
unfolding total_price
total_most bs n e = sum_most (λ i. delivery_price bs (suc i)) n 1000000 (λ i l. price_most bs (suc i) e)

-- deliveries after a, up to and with b, that cost the same
total_level : (bs : List Band) (c a b : ℕ) → a ≤ b → ((n : ℕ) → a < n → n ≤ b → delivery_price bs n ≡ c) → total_price bs b ≡ total_price bs a + (b - a) * c
unfolding total_price
total_level bs c a b h level = sum_level (λ i. delivery_price bs (suc i)) c a b h (λ i f l. level (suc i) (omega arith) (omega arith))

-- ---- band after band

-- the deliveries up to `priced` cost `total`, and those that are left fall in the bands from number i on
pub record Priced (bs : List Band) (count i priced total : ℕ) : Type 0 where
  pub within : priced ≤ count
  pub before : i < length bs → priced ≤ (band_of bs i).last
  pub so_far : total ≡ total_price bs priced
  pub left : (n : ℕ) → priced < n → n ≤ count → delivery_price bs n ≡ delivery_price (drop i bs) n

pub priced_none : (bs : List Band) (count : ℕ) → Priced bs count 0 0 0
unfolding total_price sum
priced_none bs count = record { within = omega arith; before = λ h. omega arith; so_far = refl; left = λ n f l. refl }

module _ (bs : List Band) (count i priced total : ℕ) (z : Priced bs count i priced total) where
  -- a band that is not the last, up to its end or the last delivery
  module _ (more : suc i < length bs) where
    abbrev here : Band
    here = band_of bs i

    abbrev end : ℕ
    end = min here.last count

    pub priced_before : priced ≤ end
    priced_before = omega (arith, z.within, z.before (omega arith))

    pub priced_band : total_price bs end ≡ total + (end - priced) * here.price
    priced_band =
        rw z.so_far (total_level bs here.price priced end priced_before
        (λ n f l. z.left n f (omega arith) ∙ price_next bs i n more ∙ rw (le-leb n here.last (omega arith))))

    pub priced_next : rising bs ≡ true → Priced bs count (suc i) end (total + (end - priced) * here.price)
    priced_next rise =
        record {
          within = omega arith;
          before = λ h. omega (arith, rising_at_lem bs i rise more);
          so_far = sym priced_band;
          left = λ n f l. z.left n (omega (arith, priced_before)) l ∙ price_next bs i n more ∙ rw (lt-leb n here.last (omega arith));
        }

  -- the last band, whatever its end
  pub priced_last : suc i ≡ length bs → total_price bs count ≡ total + (count - priced) * (band_of bs i).price
  priced_last last =
      rw z.so_far (total_level bs (band_of bs i).price priced count z.within (λ n f l. z.left n f l ∙ price_last bs i n last))
