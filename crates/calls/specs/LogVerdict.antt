-- Demand 2, "a supplier's log passes exactly if it is byte for byte theirs": what the verdict of check a log tells of
-- the log, and where two logs differ.
use Rattle.std.specs.Prelude.{ℕ, ◌*◌, ◌≡◌, List, length, take, drop}
use Rattle.record.specs.StepRecords.{step_records}
use Rattle.record.specs.AnswerRecords.{answer_size, log_bytes}
use Rattle.calls.specs.Refusals.{refusal_number}
use Rattle.tree.specs.Shape.{shape_for}
use Rattle.calls.specs.ListOrder.{play_all}
use Rattle.calls.specs.CheckLog.{check_refusal}

-- the log of the step rules: the bytes of the answers that the records give
unfoldable pub log_of_rules : ℕ → ℕ → List ℕ → List ℕ
log_of_rules p l records = log_bytes (play_all (shape_for p l) (step_records records)).answers

-- a call with a work table of so many words is not turned down, and no record is refused
pub record NoRefusal (p l words : ℕ) (records log : List ℕ) : Type 0 where
  pub call : refusal_number (check_refusal p l words (length records) (length log)) ≡ 0
  pub list : refusal_number (play_all (shape_for p l) (step_records records)).refusal ≡ 0

-- record i of a log, from 0: its bytes, or none where it is lacking
unfoldable pub record_at : ℕ → List ℕ → List ℕ
record_at i log = take answer_size (drop (answer_size * i) log)

-- two logs differ first at record i: the records before it are equal, and it is unequal or lacking in one
pub record DifferFirst (i : ℕ) (xs ys : List ℕ) : Type 0 where
  pub before : take (answer_size * i) xs ≡ take (answer_size * i) ys
  pub here : record_at i xs ≡ record_at i ys → ⊥

-- one thing holds exactly if the other does
abbrev pub Exactly : Type 0 → Type 0 → Type 0
Exactly A B = (A → B) × (B → A)

-- what a verdict (0 same, 1 differs) and its index tell of a log
pub record Judges (p l words : ℕ) (records log : List ℕ) (verdict index : ℕ) : Type 0 where
  pub same : Exactly (verdict ≡ 0) (NoRefusal p l words records log × (log ≡ log_of_rules p l records))
  pub differs : (i : ℕ) → Exactly ((verdict ≡ 1) × (index ≡ i)) (NoRefusal p l words records log × DifferFirst i (log_of_rules p l records) log)
