-- The text of a log is one line for each of its answer records, and the last line; so what the printing program prints
-- of a run is a line for each answer that the run gave. Laws about the definitions; no proof of code uses them.
use Prim.Native.Nat.{ℕ, ◌^◌, ◌≤◌, ◌<◌}
use native.Mathlib.Omega.{arith}
use mathlib.Core.Path.{◌≡◌, ap, sym, ◌∙◌}
use mathlib.Core.Bool.{true}
use mathlib.Core.List.{List, ◌++◌, flat_map}
use lib.ListN.{length, get_or}
use borrow.Author.Tests.{le-ltb}
use Rattle.base.specs.Members.{All}
use Rattle.base.proofs.Members.{all_map}
use Rattle.base.proofs.Gather.{flat_map-map}
use Rattle.record.specs.declared.AnswerRecord.{AnswerRecord}
use Rattle.encoding.specs.Bytes.{cut}
use Rattle.record.specs.StepRecords.{step_records}
use Rattle.record.specs.AnswerRecords.{answer_size, bytes_of_answer, log_bytes}
use Rattle.record.specs.ReadAnswers.{answer_record}
use Rattle.record.proofs.Lengths.{answer_length}
use Rattle.encoding.proofs.ReadBack.{list_back}
use Rattle.record.proofs.ReadBack.{Fitting, record_back}
use Rattle.tree.specs.Shape.{height_for, shape_for}
use Rattle.calls.specs.Refusals.{refusal_number, accepted, call_refusal}
use Rattle.calls.specs.Run.{Played, play, run_played, run}
use Rattle.calls.proofs.PlayedRecords.{played_answers_fit}
use Rattle.print.specs.Lines.{answer_line, last_line}
use Rattle.print.specs.Printed.{answer_lines, printed, run_text, print_run}

lines_back : (xs : List AnswerRecord) (rest : List ℕ) → All Fitting xs → answer_lines (log_bytes xs ++ rest) (length xs) ≡ flat_map answer_line xs
unfolding answer_lines log_bytes
lines_back xs rest f =
    sym (flat_map-map answer_line answer_record (cut answer_size (length xs) (flat_map bytes_of_answer xs ++ rest)))
    ∙ ap (flat_map answer_line) (list_back answer_size bytes_of_answer answer_record answer_length xs rest (all_map xs record_back f))

pub printed_log : (xs : List AnswerRecord) (rest : List ℕ) (refusal taken : ℕ) → All Fitting xs
    → printed (log_bytes xs ++ rest) (length xs) refusal taken ≡ flat_map answer_line xs ++ last_line refusal taken
unfolding printed
printed_log xs rest refusal taken f = ap (λ l. l ++ last_line refusal taken) (lines_back xs rest f)

-- of a call that is not turned down, and a table whose words fit a machine's, as those that are lent do
module _ (input : List ℕ) where
  abbrev g : Played
  g = play (shape_for 4 24) 1536 (step_records input)

  pub printed_answers : length input ≤ 65536 → accepted (call_refusal 4 24 2065 (length input)) ≡ true → ((i : ℕ) → get_or g.machine.memory.table i 0 < 2 ^ 32)
      → print_run input ≡ flat_map answer_line g.answers ++ last_line (refusal_number g.refusal) g.taken
  unfolding print_run run_text run run_played shape_for height_for
  printed_answers short taken fits =
      rw (le-ltb 65536 (length input) short, taken)
      (printed_log g.answers _ _ _ (played_answers_fit (shape_for 4 24) (omega arith) 1536 (step_records input) (omega arith) (omega arith) fits))
