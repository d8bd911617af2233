-- `line::put_last` meets its contract.
use Prim.Native.Nat.{ℕ}
use native.Mathlib.Omega.{arith}
use mathlib.Core.Path.{refl, ap}
use mathlib.Core.List.{append_assoc}
use lib.ListN.{length, length-append}
use Rattle.text.specs.Characters.{ascii}
use Rattle.print.specs.Lines.{last_line}
use Rattle.print.proofs.Lengths.{last_length}
use Rattle.print.proofs.line.put_last.Goals as goal

pub push_str-requires : goal.push_str-requires
push_str-requires g c = omega (arith, last_length c.args.refusal c.args.taken)

pub put_number-requires : goal.put_number-requires
put_number-requires g c = omega (arith, last_length c.args.refusal c.args.taken)

pub put_number-requires-2 : goal.put_number-requires-2
put_number-requires-2 g c =
    omega (arith, length-append {A = ℕ}, last_length c.args.refusal c.args.taken, ap length c.put_number.ensures)

pub push_str-requires-2 : goal.push_str-requires-2
push_str-requires-2 g c =
    omega (
      arith,
      length-append {A = ℕ},
      last_length c.args.refusal c.args.taken,
      ap length c.put_number.ensures,
      ap length c.put_number-2.ensures,
    )

pub returns : goal.returns
unfolding last_line ascii
returns g c =
    simp
    (c.push_str-2.ensures.bytes, c.put_number-2.ensures, c.put_number.ensures, c.push_str.ensures.bytes, append_assoc)
    refl
