-- What the functions of the desk ask of the lists that they are lent.
use Rattle.std.specs.Prelude.{ℕ, ◌<◌, ◌≡◌, true, false, List, [], ◌∷◌, ◌++◌, length}
use Rattle.base.specs.Members.{All}
use Rattle.record.specs.declared.StepRecord.{StepRecord}
use Rattle.record.specs.StepRecords.{step_size, step_records}
use Rattle.calls.specs.Refusals.{accepted, torn, settings_refusal}
use Rattle.desk_rules.specs.Entries.{is_foreign}

-- p, l and the licensed process are allowed
pub record Allowed (p l licensed : ℕ) : Type 0 where
  pub settings : accepted (settings_refusal p l) ≡ true
  pub licence : licensed < p

-- a list of whole records has no foreign entry
abbrev pub Plain : ℕ → List ℕ → Type 0
Plain licensed records = torn step_size (length records) ≡ false → All (λ r. is_foreign licensed r ≡ false) (step_records records)

-- the last record is a foreign entry, and the only one
pub record EndsForeign (licensed : ℕ) (records : List ℕ) : Type 0 where
  pub whole : torn step_size (length records) ≡ false
  pub before : List StepRecord
  pub last : StepRecord
  pub cut : step_records records ≡ before ++ (last ∷ [])
  pub plain : All (λ r. is_foreign licensed r ≡ false) before
  pub foreign : is_foreign licensed last ≡ true
