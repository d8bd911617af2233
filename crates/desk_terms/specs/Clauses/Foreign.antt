-- The records before the first foreign entry of a list.
use Rattle.std.specs.Prelude.{ℕ, suc, List, [], ◌∷◌, if◌then◌else◌}
use Rattle.record.specs.declared.StepRecord.{StepRecord}
use Rattle.desk_rules.specs.Entries.{is_foreign}

-- how many they are: all where there is no such entry
unfoldable pub before_foreign : ℕ → List StepRecord → ℕ
before_foreign licensed [] = 0
before_foreign licensed (r ∷ rs) = let n = before_foreign licensed rs in if is_foreign licensed r then 0 else suc n
