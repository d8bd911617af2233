-- `text::put_number` meets its contract.
use mathlib.Core.Path.{refl}
use borrow.Author.Rules.{rules}
use mathlib.Core.List.{append_assoc}
use Rattle.text.specs.Characters.{ascii}
use Rattle.text.specs.Decimal.{number_field}
use Rattle.text.proofs.Digits.{number_length}
use Rattle.text.proofs.put_number.Goals as goal

pub push_str-requires : goal.push_str-requires
push_str-requires g c = search (rules, number_length c.args.x)

pub put_decimal-requires : goal.put_decimal-requires
put_decimal-requires g c = search (rules, number_length c.args.x)

pub returns : goal.returns
unfolding number_field ascii
returns g c = simp (c.put_decimal.ensures, c.push_str.ensures.bytes, append_assoc) refl
