-- What deliveries cost by a price sheet, and what is refused.
use Rattle.std.specs.Prelude.{ℕ, suc, ◌/◌, ◌%◌, not, List, [], ◌∷◌, length, ltb, leb, eqb, if◌then◌else◌, Result, Ok, Err}
use Rattle.base.specs.Sums.{sum}
use Rattle.price.specs.declared.Band.{Band}
use Rattle.price.specs.declared.PriceRefusal.{PriceRefusal}
use Rattle.price.specs.declared.PriceRefusal.TheVariants.{Count, SheetTorn, Bands, PriceTooHigh}
use Rattle.price.specs.Sheet.{band_size, bands, bands_allowed, prices_allowed}

-- the price of delivery number n, in hundredths of a cent: that of the first band whose end is not below n, or of the
-- last band, whatever its end. (Cents for a hundred deliveries are hundredths of a cent for one. There is no sheet
-- without bands: 15.)
unfoldable pub delivery_price : List Band → ℕ → ℕ
delivery_price [] n = 0
delivery_price (b ∷ []) n = b.price
delivery_price (b ∷ c ∷ bs) n = if leb n b.last then b.price else delivery_price (c ∷ bs) n

-- the sum of each delivery's price, deliveries 1 to count
unfoldable pub total_price : List Band → ℕ → ℕ
total_price bs count = sum (λ i. delivery_price bs (suc i)) count

-- a count is 0 to 4,000
unfoldable pub most_deliveries : ℕ
most_deliveries = 4000

-- the paper's number of a refusal
unfoldable pub price_number : PriceRefusal → ℕ
price_number Count = 2
price_number SheetTorn = 4
price_number Bands = 15
price_number PriceTooHigh = 16

-- the first test that fails, if one does: a count over 4,000; not whole records; no bands, more than 8, or ends not
-- strictly rising; a price over 1,000,000
unfoldable pub price_refusal : ℕ → List ℕ → Result (Unit {0}) PriceRefusal
price_refusal count sheet =
    if ltb most_deliveries count
    then Err Count
    else (if not (eqb (length sheet % band_size) 0)
    then Err SheetTorn
    else (if not (bands_allowed (bands sheet))
    then Err Bands
    else (if not (prices_allowed (bands sheet)) then Err PriceTooHigh else Ok tt)))

-- what a call returns
pub record PriceResult : Type 0 where
  pub refusal : ℕ
  pub cents : ℕ
  pub remainder : ℕ

-- a refusal, with zeros
unfoldable pub price_refused : ℕ → PriceResult
price_refused n = record { refusal = n; cents = 0; remainder = 0 }

-- a price in hundredths of a cent, as whole cents and the rest
unfoldable pub price_is : ℕ → PriceResult
price_is total = record { refusal = 0; cents = total / 100; remainder = total % 100 }

-- by the tests of a call: a refusal, or the price
unfoldable pub price_unless : Result (Unit {0}) PriceRefusal → ℕ → PriceResult
price_unless (Ok passed) total = price_is total
price_unless (Err why) total = price_refused (price_number why)

-- the price of deliveries 1 to count by a sheet
unfoldable pub price_deliveries : ℕ → List ℕ → PriceResult
price_deliveries count sheet = price_unless (price_refusal count sheet) (total_price (bands sheet) count)
