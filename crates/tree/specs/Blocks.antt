-- Blocks, read and written in a node's part alone.
use Rattle.std.specs.Prelude.{ℕ, ◌+◌, ◌*◌, Bool, ◌&&◌, List, [], ◌∷◌, get_or, eqb}
use Rattle.std.proofs.lemmas.List.Edits.{sets}
use Rattle.tree.specs.declared.Block.{Block}
use Rattle.tree.specs.Shape.{Shape}
use Rattle.tree.specs.Layout.{block_words, part_of, with_part}

-- word j of the block at place i of a part; past the part's end every word reads as 0, so that place one past the end
-- reads as absent
unfoldable pub word_in : List ℕ → ℕ → ℕ → ℕ
word_in part i j = get_or part (block_words * i + j) 0

-- the place of each word in a block
abbrev pub puts_word : ℕ
puts_word = 0

abbrev pub takes_word : ℕ
takes_word = 1

abbrev pub super_word : ℕ
super_word = 2

abbrev pub left_word : ℕ
left_word = 3

abbrev pub right_word : ℕ
right_word = 4

abbrev pub size_word : ℕ
size_word = 5

abbrev pub number_word : ℕ
number_word = 6

-- the block at place i of a part
unfoldable pub block_in : List ℕ → ℕ → Block
block_in part i =
    record {
      puts = word_in part i puts_word;
      takes = word_in part i takes_word;
      superblock = word_in part i super_word;
      left = word_in part i left_word;
      right = word_in part i right_word;
      size = word_in part i size_word;
      number = word_in part i number_word;
    }

-- the words of a block, and the part with block b at place i
unfoldable pub words_of : Block → List ℕ
words_of b = b.puts ∷ b.takes ∷ b.superblock ∷ b.left ∷ b.right ∷ b.size ∷ b.number ∷ []

unfoldable pub with_block : List ℕ → ℕ → Block → List ℕ
with_block part i b = sets part (block_words * i) (words_of b)

-- the block at place i of node v of a table, and the table with block b there
unfoldable pub block_at : Shape → List ℕ → ℕ → ℕ → Block
block_at s table v i = block_in (part_of s table v) i

unfoldable pub with_block_at : Shape → List ℕ → ℕ → ℕ → Block → List ℕ
with_block_at s table v i b = with_part s table v (with_block (part_of s table v) i b)

-- a place with no puts and no takes is absent
unfoldable pub absent : Block → Bool
absent b = eqb b.puts 0 && eqb b.takes 0
