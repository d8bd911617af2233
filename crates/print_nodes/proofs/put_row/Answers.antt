-- `put_row` meets its contract.
use Prim.Native.Nat.{ℕ, ◌+◌}
use native.Mathlib.Omega.{arith}
use mathlib.Core.Path.{◌≡◌, refl, ap}
use mathlib.Core.List.{List, append_assoc}
use lib.ListN.{length, length-append}
use Rattle.text.specs.Characters.{ascii}
use Rattle.print_nodes.specs.NodesText.{spaced, row_line}
use Rattle.print_nodes.proofs.put_row.Goals as goal

line_length : (row : List ℕ) → length (row_line row) ≡ length (spaced row) + 1
unfolding row_line ascii
line_length row = simp length-append refl

pub put_spaced-requires : goal.put_spaced-requires
put_spaced-requires g c = omega (arith, line_length c.args.row.now)

pub push_str-requires : goal.push_str-requires
push_str-requires g c =
    omega (arith, length-append {A = ℕ}, ap length c.put_spaced.ensures, line_length c.args.row.now)

pub returns : goal.returns
unfolding row_line ascii
returns g c = simp (c.push_str.ensures.bytes, c.put_spaced.ensures, append_assoc) refl
