-- `encoding::word_at` meets its contract.
use native.Mathlib.Omega.{arith}
use mathlib.Core.Path.{◌∙◌}
use Rattle.encoding.proofs.LittleEndian.{word_number}
use Rattle.encoding.proofs.word_at.Goals as goal

pub returns : goal.returns
returns c = c.from_le_bytes.ensures ∙ word_number c.args.bytes.now c.args.at (omega arith)
