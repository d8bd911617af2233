-- Search of a part for the first place whose word reaches a number.
use Rattle.std.specs.Prelude.{ℕ, ◌+◌, ◌*◌, ◌-◌, ◌≤◌, ◌<◌, List, length}
use Rattle.tree.specs.Layout.{block_words}
use Rattle.tree.specs.Blocks.{word_in}

-- the word of place 0 is below x, the words do not fall up to `last`, and there they reach x
pub record Reaches (part : List ℕ) (word last x : ℕ) : Type 0 where
  pub known : word < block_words
  pub fits : block_words * last + block_words ≤ length part
  pub start : word_in part 0 word < x
  pub rises : (i j : ℕ) → i ≤ j → j ≤ last → word_in part i word ≤ word_in part j word
  pub reached : x ≤ word_in part last word

-- place i is the first that reaches x
pub record First (part : List ℕ) (word last x i : ℕ) : Type 0 where
  pub some : 1 ≤ i
  pub most : i ≤ last
  pub past : word_in part (i - 1) word < x
  pub upto : x ≤ word_in part i word
