-- Step records: 8 bytes, a process, a kind, two zero bytes and a value.
use Rattle.std.specs.Prelude.{ℕ, ◌/◌, Bool, not, ◌&&◌, ◌||◌, List, map, length, take, drop, ltb, leb, eqb}
use Rattle.record.specs.declared.StepRecord.{StepRecord}
use Rattle.encoding.specs.Bytes.{number_of, cut}

-- the bytes of a step record
unfoldable pub step_size : ℕ
step_size = 8

-- the kinds: 0 step, 1 begin put, 2 begin take
unfoldable pub is_step : StepRecord → Bool
is_step r = eqb r.kind 0

unfoldable pub is_begin : StepRecord → Bool
is_begin r = not (is_step r)

unfoldable pub is_begin_put : StepRecord → Bool
is_begin_put r = eqb r.kind 1

-- the record that 8 bytes hold
unfoldable pub step_record : List ℕ → StepRecord
step_record bs =
    record {
      process = number_of (take 1 bs);
      kind = number_of (take 1 (drop 1 bs));
      zeros = number_of (take 2 (drop 2 bs));
      value = number_of (take 4 (drop 4 bs));
    }

-- the records of a list of bytes
unfoldable pub step_records : List ℕ → List StepRecord
step_records bs = map step_record (cut step_size (length bs / step_size) bs)

-- ill-formed, where there are p processes: process not below p, kind above 2, a byte that must be zero (the two, and
-- the value's unless the kind is 1)
unfoldable pub ill_formed : ℕ → StepRecord → Bool
ill_formed p r =
    leb p r.process || ltb 2 r.kind || not (eqb r.zeros 0) || (not (is_begin_put r) && not (eqb r.value 0))
