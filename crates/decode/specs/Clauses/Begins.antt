-- What a record that is no step says.
use Rattle.std.specs.Prelude.{ℕ, ◌+◌, ◌*◌, Option, None, Some, if◌then◌else◌}
use Rattle.record.specs.declared.StepRecord.{StepRecord}
use Rattle.record.specs.StepRecords.{ill_formed}
use Rattle.calls.specs.Run.{operation_of}
use Rattle.decode.specs.declared.Begin.{Begin}

-- the first of the two words of a record: process, kind and the two zero bytes
abbrev pub first_word : StepRecord → ℕ
first_word r = r.process + 256 * (r.kind + 256 * r.zeros)

-- of a record that is no step, where there are p processes: its process opens its operation, unless it is ill-formed
abbrev pub begin_of : ℕ → StepRecord → Option Begin
begin_of p r = if ill_formed p r then None else Some (record { process = r.process; operation = operation_of r })
