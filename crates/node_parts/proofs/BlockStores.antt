-- A block as code reads it and writes it: word by word, at indices that it counts from the block's first word; and a
-- store of super alone.
use Prim.Native.Nat.{ℕ, suc, ◌+◌, ◌*◌}
use native.Mathlib.Omega.{arith}
use mathlib.Core.Path.{◌≡◌, sym, ◌∙◌}
use mathlib.Core.List.{List}
use lib.ListN.{get_or, set}
use lib.Seq.{set-get_or, get_or-set_other}
use borrow.Author.Tests.{eq-eqb, ne_eqb}
use Rattle.tree.specs.declared.Block.{Block}
use Rattle.tree.specs.Layout.{block_words}
use Rattle.tree.specs.Blocks.{word_in, block_in, words_of, with_block, puts_word, takes_word, super_word, left_word, right_word, size_word, number_word}
use Rattle.tree.specs.Memory.{with_super}

-- word j of block i of a part
abbrev word : ℕ → ℕ → ℕ
word i j = block_words * i + j

module _ (l : List ℕ) (i : ℕ) where
  -- a list after stores at the words of block i
  abbrev stored : Block → List ℕ
  stored b =
      set (set (set (set (set (set (set l (word i puts_word) b.puts) (word i takes_word) b.takes) (word i super_word) b.superblock)
      (word i left_word) b.left) (word i right_word) b.right) (word i size_word) b.size) (word i number_word) b.number

  pub block_stored : (b : Block) → stored b ≡ with_block l i b
  unfolding with_block words_of
  block_stored b =
      let p : word i puts_word ≡ block_words * i = omega arith in
      let t : word i takes_word ≡ suc (block_words * i) = omega arith in
      let u : word i super_word ≡ suc (suc (block_words * i)) = omega arith in
      let l : word i left_word ≡ suc (suc (suc (block_words * i))) = omega arith in
      let r : word i right_word ≡ suc (suc (suc (suc (block_words * i)))) = omega arith in
      let z : word i size_word ≡ suc (suc (suc (suc (suc (block_words * i))))) = omega arith in
      let n : word i number_word ≡ suc (suc (suc (suc (suc (suc (block_words * i)))))) = omega arith in
      rw (p, t, u, l, r, z, n)

module _ (l : List ℕ) (i x : ℕ) where
  -- a store of what stands there changes nothing, also after a store elsewhere
  kept : (k : ℕ) → (k ≡ word i super_word → ⊥) → set (set l (word i super_word) x) k (get_or l k 0) ≡ set l (word i super_word) x
  kept k ne = rw (← get_or-set_other l (word i super_word) k x 0 ne) (set-get_or (set l (word i super_word) x) k 0)

  -- the part with a block written back, but for its super
  abbrev with_word : Block
  with_word =
      record {
        puts = word_in l i puts_word;
        takes = word_in l i takes_word;
        superblock = x;
        left = word_in l i left_word;
        right = word_in l i right_word;
        size = word_in l i size_word;
        number = word_in l i number_word;
      }

  one_store : set l (word i super_word) x ≡ with_block l i with_word
  unfolding word_in
  one_store =
      rw (
        ← block_stored l i,
        set-get_or l (word i puts_word) 0,
        set-get_or l (word i takes_word) 0,
        kept (word i left_word) (omega arith),
        kept (word i right_word) (omega arith),
        kept (word i size_word) (omega arith),
        kept (word i number_word) (omega arith),
      )

  pub super_stored : get_or l (word i super_word) 0 ≡ 0 → set l (word i super_word) x ≡ with_block l i (with_super (block_in l i) x)
  unfolding with_super block_in word_in
  super_stored z = rw (eq-eqb _ _ z) one_store

pub super_kept : (l : List ℕ) (i x : ℕ) → (get_or l (word i super_word) 0 ≡ 0 → ⊥) → l ≡ with_block l i (with_super (block_in l i) x)
unfolding with_super block_in word_in
super_kept l i x nz = rw (ne_eqb _ _ nz) (sym (set-get_or l (word i super_word) 0) ∙ one_store l i (get_or l (word i super_word) 0))
