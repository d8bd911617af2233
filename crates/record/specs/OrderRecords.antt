-- Order records: 8 bytes, a process, a kind (1 put, 2 take), a serial and a root block.
use Rattle.std.specs.Prelude.{ℕ, List, ◌++◌}
use Rattle.record.specs.declared.OrderRecord.{OrderRecord}
use Rattle.encoding.specs.Bytes.{bytes_of}

unfoldable pub order_bytes : OrderRecord → List ℕ
order_bytes x = bytes_of 1 x.process ++ bytes_of 1 x.kind ++ bytes_of 2 x.serial ++ bytes_of 4 x.block
