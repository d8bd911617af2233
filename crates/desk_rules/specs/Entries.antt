-- Dictionary entries, who may put them, and the bytes of their terms.
use Rattle.std.specs.Prelude.{ℕ, ◌-◌, Bool, not, ◌&&◌, leb, eqb}
use mathlib.Core.List.{List, flat_map}
use Rattle.record.specs.declared.StepRecord.{StepRecord}
use Rattle.encoding.specs.Bytes.{bytes_of}
use Rattle.record.specs.StepRecords.{is_begin_put}

-- 2^31
unfoldable pub first_entry : ℕ
first_entry = 2147483648

-- a value of 2^31 or more is a dictionary entry
unfoldable pub is_entry : ℕ → Bool
is_entry v = leb first_entry v

-- the term number of an entry: the rest after subtracting 2^31
unfoldable pub term_of : ℕ → ℕ
term_of v = v - first_entry

-- a record that begins a put of an entry by another process than the licensed one
unfoldable pub is_foreign : ℕ → StepRecord → Bool
is_foreign licensed r = is_begin_put r && is_entry r.value && not (eqb r.process licensed)

-- terms as 32-bit numbers, low byte first
unfoldable pub term_size : ℕ
term_size = 4

unfoldable pub term_bytes : List ℕ → List ℕ
term_bytes ts = flat_map (bytes_of term_size) ts
