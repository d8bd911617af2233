-- What the call returns: a refusal with zeros, or the price, which is exact.
use Prim.Native.Nat.{ℕ, ◌/◌, ◌%◌}
use native.Mathlib.Omega.{arith}
use mathlib.Core.Path.{◌≡◌}
use mathlib.Core.List.{List}
use Rattle.std.specs.Prelude.{Ok, Err}
use Rattle.price.specs.declared.PriceRefusal.{PriceRefusal}
use Rattle.price.specs.declared.PriceRefusal.TheVariants.{Count, SheetTorn, Bands, PriceTooHigh}
use Rattle.price.specs.Sheet.{bands}
use Rattle.price.specs.Price.{price_number, total_price, price_refusal, price_refused, price_is, price_unless, price_deliveries}
use Rattle.price.specs.Exact.{Exact}
use Rattle.price.proofs.SheetTests.{accepted}
use Rattle.price.proofs.ExactPrice.{exact}

-- no refusal's is 0
pub number_above : (why : PriceRefusal) → price_number why ≡ 0 → ⊥
unfolding price_number
number_above Count e = omega arith
number_above SheetTorn e = omega arith
number_above Bands e = omega arith
number_above PriceTooHigh e = omega arith

module _ (count : ℕ) (sheet : List ℕ) where
  pub returns_refusal : (why : PriceRefusal) (n : ℕ) → price_refusal count sheet ≡ Err why → n ≡ price_number why → price_refused n ≡ price_deliveries count sheet
  unfolding price_deliveries price_unless
  returns_refusal why n is e = rw (is, e)

  module _ (none : price_refusal count sheet ≡ Ok tt) (total : ℕ) (is-total : total ≡ total_price (bands sheet) count) where
    pub returns_price : price_is total ≡ price_deliveries count sheet
    unfolding price_deliveries price_unless
    returns_price = rw (none, is-total)

    pub returns_exact : Exact (bands sheet) count (total / 100) (total % 100)
    returns_exact = rw is-total (exact (bands sheet) count (accepted count sheet none).some)
