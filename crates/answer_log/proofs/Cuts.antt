-- The records of the bytes of a log, and a place where it has none.
use Prim.Native.Nat.{ℕ, ◌+◌, ◌*◌, ◌-◌, ◌/◌, ◌<◌}
use native.Mathlib.Omega.{arith}
use mathlib.Core.Bool.{false}
use mathlib.Core.Path.{◌≡◌, ap, ◌∙◌}
use mathlib.Core.List.{List}
use lib.ListN.{length, take, drop, length-drop}
use lib.Seq.{take_all}
use Rattle.encoding.specs.Bytes.{cut}
use Rattle.record.specs.declared.AnswerRecord.{AnswerRecord}
use Rattle.record.specs.AnswerRecords.{answer_size, bytes_of_answer}
use Rattle.encoding.proofs.Cuts.{cut_length_lem}
use Rattle.record.proofs.Lengths.{answer_length}
use Rattle.calls.specs.CheckLog.{same_bytes}
use Rattle.calls.specs.LogVerdict.{record_at}
use Rattle.calls.proofs.SameBytes.{unequal_not_same}

abbrev pub records_of : List ℕ → List (List ℕ)
records_of log = cut answer_size (length log / answer_size) log

pub records_length : (log : List ℕ) → length (records_of log) ≡ length log / answer_size
records_length log = cut_length_lem answer_size (length log / answer_size) log

-- past its last record a log has no answer's bytes
pub no_record_lem : (log : List ℕ) (n : ℕ) (a : AnswerRecord) → length log < answer_size * n + answer_size
    → same_bytes (bytes_of_answer a) (record_at n log) ≡ false
unfolding answer_size record_at
no_record_lem log n a h =
    let rest : List ℕ = drop (answer_size * n) log in
    let l : length (take answer_size rest) ≡ length log - answer_size * n =
    ap length (take_all answer_size rest (simp length-drop (omega arith))) ∙ length-drop (answer_size * n) log
    in
    unequal_not_same (bytes_of_answer a) (take answer_size rest) (λ e. omega (arith, ap length e, answer_length a, l))
