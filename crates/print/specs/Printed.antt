-- What the printing program prints.
use Rattle.std.specs.Prelude.{ℕ, ◌≡◌, length, take, drop, replicate, ltb, if◌then◌else◌}
use mathlib.Core.List.{List, ◌++◌, flat_map}
use Rattle.encoding.specs.Bytes.{cut}
use Rattle.record.specs.AnswerRecords.{answer_size}
use Rattle.calls.specs.Run.{RunResult, run}
use Rattle.record.specs.ReadAnswers.{answer_record}
use Rattle.print.specs.Lines.{answer_line, last_line, long_line}

-- one line an answer, of the first n in some answer bytes
unfoldable pub answer_lines : List ℕ → ℕ → List ℕ
answer_lines answers n = flat_map (λ bs. answer_line (answer_record bs)) (cut answer_size n answers)

-- the text of n answers, a refusal number and the records taken
unfoldable pub printed : List ℕ → ℕ → ℕ → ℕ → List ℕ
printed answers n refusal taken = answer_lines answers n ++ last_line refusal taken

-- the text of what Run leaves
unfoldable pub run_text : RunResult → List ℕ
run_text r = printed r.answers r.answered r.refusal r.taken

-- what the printing program prints of an input: p = 4, L = 24, a table of 2,065 words, 1,536 answer bytes; an input
-- longer than 65,536 bytes prints long alone
unfoldable pub print_run : List ℕ → List ℕ
print_run input =
    if ltb 65536 (length input) then long_line
    else run_text (run 4 24 input (replicate 2065 0) (replicate 1536 0))

-- what is read of an input: the bytes that the record buffer holds, and the byte after them, if there is one
pub record ReadFrom (input records next : List ℕ) : Type 0 where
  pub first : records ≡ take 65536 input
  pub after : next ≡ take 1 (drop 65536 input)
