-- A step record is read from its bytes as the definition says.
use native.Mathlib.Omega.{arith}
use Rattle.encoding.proofs.Numbers.{byte_number}
use Rattle.encoding.proofs.LittleEndian.{half_number, word_number}
use Rattle.record.specs.StepRecords.{step_record}
use Rattle.record.proofs.steps.StepRecordFromArrayU88.from.Goals as goal

pub returns : goal.returns
unfolding step_record
returns c =
    let b = c.args.bytes in
    cc (byte_number b 0 (omega arith), byte_number b 1 (omega arith), half_number b 2 (omega arith), word_number b 4 (omega arith))
