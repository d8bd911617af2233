-- A word for each operation, in which the value that it received stands.
use Rattle.std.specs.Prelude.{ℕ, ◌+◌, ◌*◌, ◌-◌, ◌≤◌, ◌<◌, get_or, set, if◌then◌else◌}
use mathlib.Core.List.{List, [], ◌∷◌, flat_map}
use Rattle.record.specs.declared.AnswerRecord.{AnswerRecord}
use Rattle.record.specs.declared.OrderRecord.{OrderRecord}
use Rattle.record.specs.AnswerRecords.{reply_value}
use Rattle.desk_rules.specs.Entries.{is_entry, term_of}

-- the slot of an operation, where each process has l of them
unfoldable pub slot_of : ℕ → ℕ → ℕ → ℕ
slot_of l process serial = process * l + serial - 1

-- it is one of n slots
pub record HasSlot (l n process serial : ℕ) : Type 0 where
  pub first : 1 ≤ serial
  pub below : slot_of l process serial < n

-- slots ws after some answers: each operation's has the value of its answer, 0 for none; of two answers to one
-- operation the first counts
unfoldable pub entered : ℕ → List AnswerRecord → List ℕ → List ℕ
entered l [] ws = ws
entered l (a ∷ log) ws = set (entered l log ws) (slot_of l a.process a.serial) (reply_value a.reply)

-- the term in a slot, if it has an entry
unfoldable pub term_at : List ℕ → ℕ → List ℕ
term_at ws i = let w = get_or ws i 0 in if is_entry w then term_of w ∷ [] else []

-- the terms in the slots of some operations, in their order
unfoldable pub collected : ℕ → List ℕ → List OrderRecord → List ℕ
collected l ws xs = flat_map (λ (x : OrderRecord). term_at ws (slot_of l x.process x.serial)) xs
