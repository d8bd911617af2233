-- `entries::is_entry` meets its contract. By computation.
use mathlib.Core.Path.{refl}
use Rattle.desk_rules.specs.Entries.{first_entry, is_entry}
use Rattle.desk_terms.proofs.entries.is_entry.Goals as goal

pub returns : goal.returns
unfolding is_entry first_entry
returns c = refl
