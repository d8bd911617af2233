-- What a price must be, by the plain meaning of a sheet: cents and remainder are the sum, over the deliveries, of the
-- price of the band that each falls in.
use Rattle.std.specs.Prelude.{ℕ, suc, ◌+◌, ◌*◌, ◌≤◌, ◌<◌, ◌≡◌, List, length}
use Rattle.base.specs.Sums.{sum}
use Rattle.price.specs.declared.Band.{Band}
use Rattle.price.specs.Sheet.{band_of}

-- delivery number n falls in band i, from 0: it is past the ends of all bands before that one, and not past that one's
-- own end; the own end of the last band changes no price
pub record FallsIn (bs : List Band) (n i : ℕ) : Type 0 where
  pub is_band : i < length bs
  pub past : (j : ℕ) → j < i → (band_of bs j).last < n
  pub not_past : suc i < length bs → n ≤ (band_of bs i).last

-- the exact price of deliveries 1 to count: `falls_in` tells the band of each by its number, and whole cents and
-- hundredths of a cent, 0 to 99, are the sum of these bands' prices. (Cents for a hundred deliveries are hundredths of
-- a cent for one.)
pub record Exact (bs : List Band) (count cents remainder : ℕ) : Type 0 where
  pub falls_in : ℕ → ℕ
  pub falls : (n : ℕ) → 1 ≤ n → n ≤ count → FallsIn bs n (falls_in n)
  pub sum_of : 100 * cents + remainder ≡ sum (λ i. (band_of bs (falls_in (suc i))).price) count
  pub below : remainder < 100
