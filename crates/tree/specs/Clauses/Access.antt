-- Blocks by node number: what reading and writing them in a work table needs.
use Rattle.std.specs.Prelude.{ℕ, ◌+◌, ◌*◌, ◌≤◌, ◌<◌, List, length}
use Rattle.tree.specs.declared.Block.{Block}
use Rattle.tree.specs.declared.Totals.{Totals}
use Rattle.tree.specs.Shape.{Shape, processes}
use Rattle.tree.specs.Layout.{block_words, part_start, part_words}

-- a tree of shape s has node v, of at most 16, and its part stands in the table
pub record HasPart (s : Shape) (table : List ℕ) (v : ℕ) : Type 0 where
  pub low : v < 16
  pub node : v < 2 * processes s
  pub fits : part_start s v + part_words s v ≤ length table

-- and has a place i
pub record HasPlace (s : Shape) (table : List ℕ) (v i : ℕ) : Type 0 where
  pub part : HasPart s table v
  pub place : block_words * i + block_words ≤ part_words s v

-- a block's totals: its puts and its takes
unfoldable pub totals_of : Block → Totals
totals_of b = record { puts = b.puts; takes = b.takes }
