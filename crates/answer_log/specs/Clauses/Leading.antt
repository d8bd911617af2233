-- A log as it grows: what stands in the answer bytes, and how many records at its beginning are those of another log;
-- what one more answer does to both, and the verdict at the end.
use Rattle.std.specs.Prelude.{ℕ, suc, ◌+◌, ◌*◌, ◌/◌, ◌&&◌, List, [], ◌∷◌, ◌++◌, map, length, take, drop, leb, eqb, if◌then◌else◌}
use Rattle.std.proofs.lemmas.List.Edits.{sets}
use Rattle.record.specs.declared.AnswerRecord.{AnswerRecord}
use Rattle.encoding.specs.Bytes.{cut}
use Rattle.record.specs.AnswerRecords.{answer_size, bytes_of_answer, log_bytes}
use Rattle.calls.specs.declared.Verdict.{Verdict}
use Rattle.calls.specs.declared.Verdict.TheVariants.{Same, Differs}
use Rattle.calls.specs.CheckLog.{same_bytes}
use Rattle.calls.specs.LogVerdict.{record_at}

-- the records at the beginning in which two logs are equal
unfoldable pub leading : List (List ℕ) → List (List ℕ) → ℕ
leading [] ys = 0
leading (x ∷ xs) [] = 0
leading (x ∷ xs) (y ∷ ys) = let r = leading xs ys in if same_bytes x y then suc r else 0

-- those of some answers and of the bytes of a log
unfoldable pub leading_of : List AnswerRecord → List ℕ → ℕ
leading_of xs log = leading (map bytes_of_answer xs) (cut answer_size (length log / answer_size) log)

-- answer bytes with some answers written in them; where there are no bytes, none are written
unfoldable pub written : List ℕ → List AnswerRecord → List ℕ
written out xs = take (length out) (log_bytes xs) ++ drop (answer_size * length xs) out

-- ---- what the code does with one answer more

-- bytes in which an answer was stored behind n others, if it has room there
unfoldable pub with_answer : List ℕ → ℕ → AnswerRecord → List ℕ
with_answer out n a =
    if leb (answer_size * n + answer_size) (length out) then sets out (answer_size * n) (bytes_of_answer a) else out

-- of n answers `equal` at the beginning are those of a log; so many are with answer a: one more if all were and the
-- log's next record is a's
unfoldable pub count_after : List ℕ → ℕ → ℕ → AnswerRecord → ℕ
count_after log n equal a =
    if eqb equal n && same_bytes (bytes_of_answer a) (record_at n log) then equal + 1 else equal

-- the verdict on a log of so many bytes, when `equal` of the answers are those of the log: the same if these are all of
-- both
unfoldable pub verdict_of : ℕ → ℕ → ℕ → Verdict
verdict_of equal answers bytes = if eqb equal answers && eqb (answer_size * answers) bytes then Same else Differs equal
