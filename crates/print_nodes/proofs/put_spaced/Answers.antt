-- `put_spaced` meets its contract.
use Prim.Native.Nat.{ℕ}
use native.Mathlib.Omega.{arith}
use borrow.Author.Rules.{rules}
use mathlib.Core.Path.{refl, ap}
use mathlib.Core.List.{List, append_assoc, append-nil}
use lib.ListN.{length, length-append}
use lib.Seq.{take_all}
use Rattle.std.proofs.lemmas.List.{nil_from_length}
use Rattle.std.proofs.lemmas.List.Folds.{length-flat_map-take}
use Rattle.text.specs.Decimal.{number_field}
use Rattle.print_nodes.specs.NodesText.{spaced}
use Rattle.print_nodes.proofs.put_spaced.Goals as goal

pub put_decimal-requires : goal.put_decimal-requires
unfolding spaced
put_decimal-requires g c =
    omega (arith, length-append {A = ℕ}, ap (λ (xs : List ℕ). length (spaced xs)) c.in-Some.ensures.cases.0)

pub put_number-requires : goal.put_number-requires
unfolding spaced
put_number-requires g c =
    omega (
      arith,
      length-append {A = ℕ},
      ap (λ (xs : List ℕ). length (spaced xs)) c.in-Some.ensures.cases.0,
      ap length c.put_decimal.ensures,
      ap length c.loop-x.invariant,
      length-flat_map-take number_field c.in-Some.others.now c.loop-x.x-index 0 c.loop-x-test.true,
    )

pub returns-in_default : goal.returns-in_default
unfolding spaced
returns-in_default g c = search (rules, nil_from_length, append-nil)

pub returns : goal.returns
unfolding spaced
returns g c =
    let others = c.in-Some.others.now in
    rw (c.in-Some.ensures.cases.0, ← take_all c.loop-x.x-index others (omega arith))
    (simp (c.loop-x.invariant, c.put_decimal.ensures, append_assoc) refl)
