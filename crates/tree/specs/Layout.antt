-- The work table: each node's blocks are one unbroken part of it, parts in node order from word 0.
use Rattle.std.specs.Prelude.{ℕ, zero, suc, ◌+◌, ◌*◌, ◌-◌, List, ◌++◌, take, drop}
use Rattle.tree.specs.Shape.{Shape, processes, last_place}

-- the words of a block: puts, takes, super, end left, end right, size, number
abbrev pub block_words : ℕ
block_words = 7

-- the words of node v's part, places 0 to the last (there is no node 0)
unfoldable pub part_words : Shape → ℕ → ℕ
part_words s zero = 0
part_words s (suc v) = block_words * (last_place s (suc v) + 1)

-- the first word of node v's part: the parts of the nodes before v stand before it
unfoldable pub part_start : Shape → ℕ → ℕ
part_start s zero = 0
part_start s (suc v) = part_start s v + part_words s v

-- words needed: 7 × ((H + 1) × p × L + 2p − 1)
unfoldable pub words_needed : Shape → ℕ
words_needed s = block_words * ((s.height + 1) * processes s * s.most + (2 * processes s - 1))

-- node v's part of a table, and the table with another part in its place
unfoldable pub part_of : Shape → List ℕ → ℕ → List ℕ
part_of s table v = take (part_words s v) (drop (part_start s v) table)

unfoldable pub with_part : Shape → List ℕ → ℕ → List ℕ → List ℕ
with_part s table v part = take (part_start s v) table ++ part ++ drop (part_start s v + part_words s v) table
