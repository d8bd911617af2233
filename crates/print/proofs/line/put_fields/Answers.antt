-- `line::put_fields` meets its contract.
use Prim.Native.Nat.{ℕ}
use native.Mathlib.Omega.{arith}
use mathlib.Core.Path.{refl, ap}
use mathlib.Core.List.{append_assoc}
use lib.ListN.{length, length-append}
use Rattle.record.specs.declared.Reply.{Reply}
use Rattle.record.specs.declared.AnswerRecord.{AnswerRecord}
use Rattle.text.specs.Characters.{ascii}
use Rattle.print.specs.Lines.{number_fields, answer_line}
use Rattle.print.proofs.Lengths.{line_length}
use Rattle.print.proofs.line.put_fields.Goals as goal

-- the answer with these fields
abbrev answer : Reply → ℕ → ℕ → ℕ → ℕ → ℕ → AnswerRecord
answer reply process serial steps helps block =
    record { process = process; reply = reply; steps = steps; helps = helps; serial = serial; block = block }

pub push_str-requires : goal.push_str-requires
push_str-requires g c =
    let a = c.args in
    omega (arith, line_length (answer a.reply a.process a.serial a.steps a.helps a.block), ap length c.operation_name.ensures)

pub put_numbers-requires : goal.put_numbers-requires
unfolding number_fields
put_numbers-requires g c =
    let a = c.args in
    omega (arith, line_length (answer a.reply a.process a.serial a.steps a.helps a.block), ap length c.operation_name.ensures)

pub put_reply-requires : goal.put_reply-requires
unfolding number_fields
put_reply-requires g c =
    let a = c.args in
    omega (
      arith,
      length-append {A = ℕ},
      line_length (answer a.reply a.process a.serial a.steps a.helps a.block),
      ap length c.operation_name.ensures,
      ap length c.put_numbers.ensures,
    )

pub push_str-requires-2 : goal.push_str-requires-2
unfolding number_fields
push_str-requires-2 g c =
    let a = c.args in
    omega (
      arith,
      length-append {A = ℕ},
      line_length (answer a.reply a.process a.serial a.steps a.helps a.block),
      ap length c.operation_name.ensures,
      ap length c.put_numbers.ensures,
      ap length c.put_reply.ensures,
    )

pub returns : goal.returns
unfolding answer_line number_fields ascii
returns g c =
    simp (
      c.push_str-2.ensures.bytes,
      c.put_reply.ensures,
      c.put_numbers.ensures,
      c.push_str.ensures.bytes,
      c.operation_name.ensures,
      append_assoc,
    )
    refl
