-- `print_input` meets its contract.
use Prim.Native.Nat.{ℕ, ◌*◌, ◌≤◌}
use native.Mathlib.Omega.{arith}
use borrow.Author.Rules.{rules}
use mathlib.Core.Path.{◌≡◌, refl, ap}
use mathlib.Core.List.{List}
use lib.ListN.{length, replicate}
use Rattle.base.proofs.Cases.{both}
use Rattle.record.specs.AnswerRecords.{answer_size}
use Rattle.record.specs.StepRecords.{step_records}
use Rattle.calls.specs.Refusals.{accepted, call_refusal}
use Rattle.tree.specs.Shape.{shape_for}
use Rattle.calls.specs.Run.{RunResult, run_turned_down, run_played, run}
use Rattle.calls.proofs.Played.{played_room}
use Rattle.queue.specs.declared.Ran.{Ran}
use Rattle.queue.specs.Left.{run_left}
use Rattle.text.specs.Characters.{ascii}
use Rattle.print.specs.Lines.{long_line}
use Rattle.print.specs.Printed.{run_text}
use Rattle.print.proofs.Inputs.{printed_long, printed_run}
use Rattle.print_run.proofs.print_input.Goals as goal

-- the answers that Run writes have room
run_room : (p l : ℕ) (records table answers : List ℕ) → 16 * (run p l records table answers).answered ≤ length answers
unfolding run run_turned_down run_played answer_size
run_room p l records table answers =
    both (λ (r : RunResult). 16 * r.answered ≤ length answers) (accepted (call_refusal p l (length table) (length records)))
    (played_room (shape_for p l) (length answers) (step_records records)) (omega arith)

few : (r : Ran) (records table answers : List ℕ) → run_left r table answers ≡ run 4 24 records (replicate 2065 0) (replicate 1536 0) → r.answers ≤ 96
unfolding run_left
few r records table answers e =
    omega (arith, ap (λ (x : RunResult). x.answered) e, run_room 4 24 records (replicate 2065 0) (replicate 1536 0))

pub returns-then-next-ne0 : goal.returns-then-next-ne0
unfolding long_line ascii
returns-then-next-ne0 c = λ input read. rw (printed_long read c.if-next-ne0.true) (search rules)

pub put_printed-requires : goal.put_printed-requires
put_printed-requires c = omega (arith, ap length c.new-page.ensures, few _ _ _ _ c.run-ran.ensures.rules)

pub returns : goal.returns
unfolding run_text run_left
returns c = λ input read.
    rw (printed_run read c.if-next-ne0.false, ← c.run-ran.ensures.rules, ← c.refusal_number-number.ensures)
    (simp (c.put_printed.ensures.stored, c.new-page.ensures) refl)
