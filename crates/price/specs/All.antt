-- One name for all definitions of the price sheet, for proofs by computation: what unfolds it unfolds them.
use Rattle.base.specs.Sums.{sum}
use Rattle.encoding.specs.All.{encodings}
use Rattle.price.specs.Sheet.{band_size, band, bands, rising, most_bands, bands_allowed, highest_price, prices_allowed}
use Rattle.price.specs.Price.{delivery_price, total_price, most_deliveries, price_number, price_refusal, price_refused, price_is, price_unless, price_deliveries}

unfoldable pub price_rules : Unit {0}
unfolding sum encodings band_size band bands rising most_bands bands_allowed highest_price prices_allowed delivery_price total_price most_deliveries
    price_number price_refusal price_refused price_is price_unless price_deliveries
price_rules = tt
