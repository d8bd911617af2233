-- A block that was written in a part reads as written, and each other as before.
use Prim.Native.Nat.{ℕ, zero, suc, ◌+◌, ◌*◌, ◌≤◌, ◌<◌}
use native.Mathlib.Omega.{arith}
use native.Mathlib.Decide.{dec_lt}
use mathlib.Core.Path.{◌≡◌, refl, sym, ◌∙◌}
use mathlib.Core.Logic.{◌≢◌}
use mathlib.Core.List.{List}
use lib.Dec.{lit<}
use lib.ListN.{length, get_or}
use lib.Seq.{sets, length-sets}
use Rattle.base.proofs.Stores.{sets_before, sets_behind, sets_here}
use Rattle.tree.specs.declared.Block.{Block}
use Rattle.tree.specs.Layout.{block_words}
use Rattle.tree.specs.Blocks.{word_in, block_in, words_of, with_block}

-- a block whose words are those of another is that block
pub block_by_words : (part : List ℕ) (i : ℕ) (b : Block) → ((j : ℕ) → j < block_words → word_in part i j ≡ get_or (words_of b) j 0) → block_in part i ≡ b
unfolding block_in words_of
block_by_words part i b h =
    λ z. record {
      puts = h 0 (lit< tt) z;
      takes = h 1 (lit< tt) z;
      superblock = h 2 (lit< tt) z;
      left = h 3 (lit< tt) z;
      right = h 4 (lit< tt) z;
      size = h 5 (lit< tt) z;
      number = h 6 (lit< tt) z;
    }

-- the words of a block are those that it was read from
words_of_block : (part : List ℕ) (i j : ℕ) → j < block_words → get_or (words_of (block_in part i)) j 0 ≡ word_in part i j
unfolding block_in words_of
words_of_block part i zero h = refl
words_of_block part i (suc zero) h = refl
words_of_block part i (suc (suc zero)) h = refl
words_of_block part i (suc (suc (suc zero))) h = refl
words_of_block part i (suc (suc (suc (suc zero)))) h = refl
words_of_block part i (suc (suc (suc (suc (suc zero))))) h = refl
words_of_block part i (suc (suc (suc (suc (suc (suc zero)))))) h = refl
words_of_block part i (suc (suc (suc (suc (suc (suc (suc j))))))) h = absurd (omega arith)

module _ (part : List ℕ) (i : ℕ) (b : Block) where
  word_same : (j : ℕ) → block_words * suc i ≤ length part → j < block_words → word_in (with_block part i b) i j ≡ get_or (words_of b) j 0
  unfolding word_in with_block words_of
  word_same j fits h = sets_here (words_of b) part (block_words * i) j (omega arith) h

  word_other : (i' j : ℕ) → i ≢ i' → j < block_words → word_in (with_block part i b) i' j ≡ word_in part i' j
  unfolding word_in with_block words_of
  word_other i' j ne h = on (dec_lt i' i)
    where
      on : Dec (i' < i) → get_or (sets part (block_words * i) (words_of b)) (block_words * i' + j) 0 ≡ get_or part (block_words * i' + j) 0
      on (yes l) = sets_before (words_of b) part (block_words * i) (block_words * i' + j) (omega arith)
      on (no l) = sets_behind (words_of b) part (block_words * i) (block_words * i' + j) (omega arith)

  pub block_same : block_words * suc i ≤ length part → block_in (with_block part i b) i ≡ b
  block_same fits = block_by_words (with_block part i b) i b (λ j h. word_same j fits h)

  pub block_other : (i' : ℕ) → i ≢ i' → block_in (with_block part i b) i' ≡ block_in part i'
  block_other i' ne =
      block_by_words (with_block part i b) i' (block_in part i')
      (λ j h. word_other i' j ne h ∙ sym (words_of_block part i' j h))

  pub block_length : length (with_block part i b) ≡ length part
  unfolding with_block
  block_length = length-sets part (block_words * i) (words_of b)
