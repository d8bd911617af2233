-- `exports::price_deliveries` meets its contract.
use mathlib.Core.Path.{sym, ◌∙◌}
use Rattle.price.specs.Price.{price_refused, price_is}
use Rattle.price.specs.Returned.{price_returned}
use Rattle.price.proofs.Returns.{number_above, returns_refusal, returns_price, returns_exact}
use Rattle.price.proofs.exports.price_deliveries.Goals as goal

pub returns-in-Err : goal.returns-in-Err
unfolding price_returned price_refused
returns-in-Err c =
    record { rules = returns_refusal _ _ c.in-Err.why _ (sym c.price_refusal.ensures ∙ c.in-Err.is) c.into.ensures; exact = λ none. absurd (number_above _ (sym c.into.ensures ∙ none)) }

pub returns : goal.returns
unfolding price_returned price_is
returns c =
    let none = sym c.price_refusal.ensures ∙ c.in_default.is in
    record { rules = returns_price _ _ none _ c.total_price-total.ensures; exact = λ _. returns_exact _ _ none _ c.total_price-total.ensures }
