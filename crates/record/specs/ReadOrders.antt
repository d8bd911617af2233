-- Order records, read from their bytes.
use Rattle.std.specs.Prelude.{ℕ, List, take, drop}
use Rattle.record.specs.declared.OrderRecord.{OrderRecord}
use Rattle.encoding.specs.Bytes.{number_of}

-- the order record that 8 bytes hold
unfoldable pub read_order : List ℕ → OrderRecord
read_order bs =
    record {
      process = number_of (take 1 bs);
      kind = number_of (take 1 (drop 1 bs));
      serial = number_of (take 2 (drop 2 bs));
      block = number_of (take 4 (drop 4 bs));
    }
