-- `page::put_lines` meets its contract.
use Prim.Native.Nat.{ℕ, ◌*◌, ◌/◌, ◌<◌}
use native.Mathlib.Omega.{arith}
use mathlib.Core.Path.{◌≡◌, refl, ap}
use mathlib.Core.List.{append_assoc, append-nil}
use lib.ListN.{length, take, drop, length-append}
use Rattle.encoding.proofs.Cuts.{chunk_read}
use Rattle.record.specs.declared.AnswerRecord.{AnswerRecord}
use Rattle.record.specs.ReadAnswers.{answer_record}
use Rattle.print.specs.Lines.{answer_line}
use Rattle.print.proofs.AnswerLines.{lines_none, lines_more, next_most, lines_most}
use Rattle.print.proofs.page.put_lines.Goals.{After-from}
use Rattle.print.proofs.page.put_lines.Goals as goal

-- the next answer, where it stands in the bytes
more_at : (g : _) (c : After-from g) → c.loop-bytes.bytes-index < length c.args.answers.now / 16
more_at g c = omega (arith, c.loop-bytes-test.true, c.as_chunks.ensures.front_len)

read_at : (g : _) (c : After-from g) → c.from.result ≡ answer_record (take 16 (drop (16 * c.loop-bytes.bytes-index) c.args.answers.now))
read_at g c = chunk_read answer_record 16 _ _ c.args.answers.now _ _ _ c.as_chunks.ensures.front (more_at g c) c.from.ensures

pub loop-bytes-init : goal.loop-bytes-init
loop-bytes-init g c = simp (lines_none, append-nil) refl

pub put_line-requires : goal.put_line-requires
put_line-requires g c =
    let answers = c.args.answers.now in
    let bytes = c.type_inv.answers in
    let i = c.loop-bytes.bytes-index in
    let at = (goal.at.put_line-requires g c).After-from in
    omega (
      arith,
      length-append {A = ℕ},
      ap length c.loop-bytes.invariant,
      ap (λ (a : AnswerRecord). length (answer_line a)) (read_at g at),
      more_at g at,
      next_most answers bytes (16 * i),
      lines_most answers bytes i,
    )

pub loop-bytes-preserved : goal.loop-bytes-preserved
loop-bytes-preserved g c =
    rw (lines_more, ← read_at g (goal.at.loop-bytes-preserved g c).After-from)
    (simp (c.put_line.ensures, c.loop-bytes.invariant, append_assoc) refl)

pub returns : goal.returns
returns g c =
    let e : c.loop-bytes.bytes-index ≡ length c.args.answers.now / 16 = omega (arith, c.loop-bytes-test.false, c.loop-bytes.auto.bytes-index-end, c.as_chunks.ensures.front_len) in
    rw (← e) c.loop-bytes.invariant
