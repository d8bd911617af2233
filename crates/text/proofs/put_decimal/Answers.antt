-- `text::put_decimal` meets its contract.
use borrow.Author.Rules.{rules}
use mathlib.Core.Path.{ap}
use lib.ListN.{length}
use Rattle.text.proofs.Digits.{decimal_std}
use Rattle.text.proofs.put_decimal.Goals as goal

pub push_str-requires : goal.push_str-requires
push_str-requires g c = search (rules, ap length (decimal_std c.args.x c.ranges.x.fits))

pub returns : goal.returns
returns g c = rw (decimal_std c.args.x c.ranges.x.fits) (search rules)
