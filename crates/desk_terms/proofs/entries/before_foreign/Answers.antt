-- `entries::before_foreign` meets its contract.
use native.Mathlib.Omega.{arith}
use mathlib.Core.Path.{◌≡◌, ap, ◌∙◌}
use mathlib.Core.List.{map}
use Rattle.record.specs.StepRecords.{step_record, step_records}
use Rattle.record.proofs.Cuts.{steps_chunked}
use Rattle.desk_terms.specs.Clauses.Foreign.{before_foreign}
use Rattle.desk_terms.proofs.BeforeForeign.{first_place}
use Rattle.desk_terms.proofs.entries.before_foreign.Goals as goal

pub returns : goal.returns
returns c =
    let chunks = ap (map step_record) c.as_chunks.ensures.front ∙ steps_chunked c.args.records.now in
    let first : c.unwrap_or.result ≡ before_foreign c.args.licensed (step_records c.args.records.now) =
    c.unwrap_or.ensures ∙ rw c.first_foreign.ensures (first_place c.args.licensed _ ∙ ap (before_foreign c.args.licensed) chunks) in
    omega (arith, first)
