-- An order record is written as the definition says.
use native.Mathlib.Omega.{arith}
use Rattle.encoding.proofs.LittleEndian.{byte_bytes, half_bytes, word_bytes}
use Rattle.record.specs.OrderRecords.{order_bytes}
use Rattle.record.proofs.orders.ArrayU88FromOrderRecord.from.Goals as goal

pub returns : goal.returns
unfolding order_bytes
returns c =
    let x = c.args.x in
    rw (
      c.to_le_bytes.ensures,
      c.to_le_bytes-2.ensures,
      ← byte_bytes x.process (omega arith),
      ← byte_bytes x.kind (omega arith),
      ← half_bytes x.serial,
      ← word_bytes x.block,
    )
