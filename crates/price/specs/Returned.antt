-- What the call returns, as the definition has it.
use Rattle.price.specs.declared.PriceTotal.{PriceTotal}
use Rattle.price.specs.Price.{PriceResult}

unfoldable pub price_returned : PriceTotal → PriceResult
price_returned r = record { refusal = r.refusal; cents = r.cents; remainder = r.remainder }
