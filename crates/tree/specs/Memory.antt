-- What the processes share, and the ways in which a step changes it.
use Rattle.std.specs.Prelude.{ℕ, ◌+◌, Bool, List, get_or, set, eqb, if◌then◌else◌}
use Rattle.tree.specs.declared.Block.{Block}
use Rattle.tree.specs.Shape.{Shape}
use Rattle.tree.specs.Blocks.{block_at, with_block_at, absent}

-- the words of the blocks, and each node's head by node number
pub record Memory : Type 0 where
  pub table : List ℕ
  pub heads : List ℕ

abbrev pub memory_of : List ℕ → List ℕ → Memory
memory_of table heads = record { table = table; heads = heads }

-- a node's head, first 1
unfoldable pub head_of : Memory → ℕ → ℕ
head_of m v = get_or m.heads v 1

-- the block at place i of node v
unfoldable pub block : Shape → Memory → ℕ → ℕ → Block
block s m v i = block_at s m.table v i

-- block b written at place i of node v
unfoldable pub write : Shape → Memory → ℕ → ℕ → Block → Memory
write s m v i b = record { table = with_block_at s m.table v i b; heads = m.heads }

-- the same if the place is absent
unfoldable pub write_if_absent : Shape → Memory → ℕ → ℕ → Block → Memory
write_if_absent s m v i b =
    record { table = if absent (block s m v i) then with_block_at s m.table v i b else m.table; heads = m.heads }

-- super of v's block i set to x, if it is 0
unfoldable pub with_super : Block → ℕ → Block
with_super b x =
    record {
      puts = b.puts;
      takes = b.takes;
      superblock = if eqb b.superblock 0 then x else b.superblock;
      left = b.left;
      right = b.right;
      size = b.size;
      number = b.number;
    }

unfoldable pub set_super : Shape → Memory → ℕ → ℕ → ℕ → Memory
set_super s m v i x = write s m v i (with_super (block s m v i) x)

-- whether v's head is h, so that raising it from h moves it
unfoldable pub head_is : Memory → ℕ → ℕ → Bool
head_is m v h = eqb (head_of m v) h

-- v's head raised from h to h + 1, if it is h
unfoldable pub raise : Memory → ℕ → ℕ → Memory
raise m v h = record { table = m.table; heads = if head_is m v h then set m.heads v (h + 1) else m.heads }
