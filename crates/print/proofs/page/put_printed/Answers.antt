-- `page::put_printed` meets its contract.
use Prim.Native.Nat.{ℕ, ◌*◌}
use native.Mathlib.Omega.{arith}
use mathlib.Core.Path.{◌≡◌, refl, ap}
use mathlib.Core.List.{◌++◌, append_assoc}
use lib.ListN.{length, length-append}
use lib.Seq.{length-take-le}
use Rattle.print.specs.Printed.{answer_lines, printed}
use Rattle.print.proofs.AnswerLines.{text_most, lines_front}
use Rattle.print.proofs.page.put_printed.Goals.{After-put_lines}
use Rattle.print.proofs.page.put_printed.Goals as goal

pub put_lines-requires : goal.put_lines-requires
put_lines-requires g c = omega (arith, length-take-le (16 * c.args.n) c.args.answers.now c.requires.0)

-- the lines are those of the n answers
lines_at : (g : _) (c : After-put_lines g) → c.put_lines.new.page.bytes ≡ c.args.page.now.bytes ++ answer_lines c.args.answers.now c.args.n
lines_at g c = rw (lines_front c.args.answers.now c.args.n c.requires.0) at c.put_lines.ensures

pub put_last-requires : goal.put_last-requires
put_last-requires g c =
    let start = c.args in
    omega (
      arith,
      length-append {A = ℕ},
      ap length (lines_at g (goal.at.put_last-requires g c).After-put_lines),
      text_most start.answers.now c.type_inv.answers start.n start.refusal start.taken (omega arith) (omega arith),
    )

pub returns-clause-stored : goal.returns-clause-stored
unfolding printed
returns-clause-stored g c = simp (c.put_last.ensures, lines_at g (goal.at.returns-clause-stored g c).After-put_lines, append_assoc) refl

pub returns-clause-upper_bound : goal.returns-clause-upper_bound
returns-clause-upper_bound g c =
    let start = c.args in
    omega (
      arith,
      length-append {A = ℕ},
      ap length (lines_at g (goal.at.returns-clause-upper_bound g c).After-put_lines),
      ap length c.put_last.ensures,
      text_most start.answers.now c.type_inv.answers start.n start.refusal start.taken (omega arith) (omega arith),
    )
