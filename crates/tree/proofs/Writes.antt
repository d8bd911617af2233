-- What a write leaves at each place of the memory, and what raising a head leaves of each head.
use Prim.Native.Nat.{ℕ, ◌+◌, ◌*◌, ◌≤◌, ◌<◌}
use native.Mathlib.Omega.{arith}
use native.Mathlib.Decide.{ℕ_discrete, dec_le}
use mathlib.Core.Path.{◌≡◌, sym, ◌∙◌}
use mathlib.Core.Logic.{◌≢◌}
use mathlib.Core.List.{List}
use lib.ListN.{length, get_or, take, drop, length-take, length-drop, length-set, get_or-eq_default}
use lib.Seq.{get_or-set_same}
use borrow.Author.Tests.{eqb-true, eq-eqb}
use Rattle.base.proofs.Cases.{cases, both}
use Rattle.base.proofs.Stores.{set_cases}
use Rattle.tree.specs.declared.Block.{Block}
use Rattle.tree.specs.Shape.{Shape, processes, last_place}
use Rattle.tree.specs.Layout.{part_start, part_words, part_of}
use Rattle.tree.specs.Blocks.{word_in, block_in, with_block, block_at, with_block_at}
use Rattle.tree.specs.Memory.{Memory, head_of, block, write, head_is, raise}
use Rattle.tree.proofs.Parts.{part_same, part_other, part_length}
use Rattle.tree.proofs.BlockWrites.{block_same, block_other, block_length}
use Rattle.tree.proofs.Sizes.{words_of, part_within}
use Rattle.tree.specs.Clauses.Invariant.{Node, Sized, zeros}

-- a part in which a place's words read as zero has the zero block there
pub block_zeros : (part : List ℕ) (i : ℕ) → ((j : ℕ) → word_in part i j ≡ 0) → block_in part i ≡ zeros
unfolding block_in zeros
block_zeros part i h = λ z. record { puts = h 0 z; takes = h 1 z; superblock = h 2 z; left = h 3 z; right = h 4 z; size = h 5 z; number = h 6 z }

-- a place past the end reads as zeros, whatever the table
past_end : (s : Shape) (t : List ℕ) (v i : ℕ) → 0 < v → last_place s v < i → block_at s t v i ≡ zeros
unfolding block_at word_in part_of
past_end s t v i pos h =
    block_zeros (take (part_words s v) (drop (part_start s v) t)) i
    (λ j. get_or-eq_default (take (part_words s v) (drop (part_start s v) t)) 0 (simp length-take (omega (arith, words_of s v pos))))

-- ---- a block of the table
module _ (s : Shape) (t : List ℕ) (v i : ℕ) (b : Block) (fits : part_start s v + part_words s v ≤ length t) where
  part_sized : length (part_of s t v) ≡ part_words s v
  unfolding part_of
  part_sized = simp (length-take, length-drop) (omega arith)

  sized : length (with_block (part_of s t v) i b) ≡ part_words s v
  sized = block_length (part_of s t v) i b ∙ part_sized

  put_same : 0 < v → i ≤ last_place s v → block_at s (with_block_at s t v i b) v i ≡ b
  unfolding block_at with_block_at
  put_same pos h =
      rw (part_same s t v (with_block (part_of s t v) i b) fits sized) (block_same (part_of s t v) i b (omega (arith, part_sized, words_of s v pos)))

  put_place : (j : ℕ) → i ≢ j → block_at s (with_block_at s t v i b) v j ≡ block_at s t v j
  unfolding block_at with_block_at
  put_place j ne = rw (part_same s t v (with_block (part_of s t v) i b) fits sized) (block_other (part_of s t v) i b j ne)

  put_node : (u j : ℕ) → u ≢ v → block_at s (with_block_at s t v i b) u j ≡ block_at s t u j
  unfolding block_at with_block_at
  put_node u j ne = rw (part_other s t v (with_block (part_of s t v) i b) fits sized u ne)

  put_length : length (with_block_at s t v i b) ≡ length t
  unfolding with_block_at
  put_length = part_length s t v (with_block (part_of s t v) i b) fits sized

module _ (s : Shape) (m : Memory) (v i : ℕ) (b : Block) (sz : Sized s m) (node : Node s v) where
  fits : part_start s v + part_words s v ≤ length m.table
  fits = omega (arith, part_within s v node.last, sz.words)

  pub write_here : i ≤ last_place s v → block s (write s m v i b) v i ≡ b
  unfolding block write
  write_here h = put_same s m.table v i b fits node.first h

  -- to show something of a block after the write, show it of b, if it stands there, and of what it was
  pub write_cases : (P : Block → Type 0) (u j : ℕ) → (u ≡ v → j ≡ i → P b) → P (block s m u j) → P (block s (write s m v i b) u j)
  unfolding block write
  write_cases P u j here there = on (ℕ_discrete u v) (ℕ_discrete j i) (dec_le i (last_place s v))
    where
      on : Dec (u ≡ v) → Dec (j ≡ i) → Dec (i ≤ last_place s v) → P (block_at s (with_block_at s m.table v i b) u j)
      on (no e) f g = rw (put_node s m.table v i b fits u j e) there
      on (yes e) (no f) g = rw (e, put_place s m.table v i b fits j (λ q. f (sym q))) (rw e at there)
      on (yes e) (yes f) (yes g) = rw (e, f, put_same s m.table v i b fits node.first g) (here e f)
      on (yes e) (yes f) (no g) =
          rw (e, f, past_end s (with_block_at s m.table v i b) v i node.first (omega arith))
          (rw (e, f, past_end s m.table v i node.first (omega arith)) at there)

  pub write_sized : Sized s (write s m v i b)
  unfolding write
  write_sized = record { words = put_length s m.table v i b fits ∙ sz.words; heads = sz.heads }

-- ---- a head that is raised
module _ (m : Memory) (v h : ℕ) where
  -- to show something of a head after v's was to be raised from h, show it of h + 1, if it is v's and was h, and of
  -- what it was
  pub raise_cases : (P : ℕ → Type 0) (u : ℕ) → (u ≡ v → head_of m u ≡ h → P (h + 1)) → P (head_of m u) → P (head_of (raise m v h) u)
  unfolding head_of head_is raise
  raise_cases P u here there =
      cases (λ (l : List ℕ). P (get_or l u 1)) (head_is m v h)
      (λ e. set_cases P m.heads v u (h + 1) 1 (λ f. here f (rw f (eqb-true (head_of m v) h e))) there)
      (λ e. there)

  pub raise_here : v < length m.heads → head_of m v ≡ h → head_of (raise m v h) v ≡ h + 1
  unfolding head_of head_is raise
  raise_here l e = rw (eq-eqb (head_of m v) h e) (get_or-set_same m.heads v (h + 1) 1 l)

  -- after it the head is past h, if it was not below
  pub raise_past : v < length m.heads → h ≤ head_of m v → h < head_of (raise m v h) v
  raise_past l le = on (ℕ_discrete (head_of m v) h)
    where
      on : Dec (head_of m v ≡ h) → h < head_of (raise m v h) v
      on (yes e) = omega (arith, raise_here l e)
      on (no e) = raise_cases (λ (x : ℕ). h < x) v (λ f g. omega arith) (omega arith)

  pub raise_sized : (s : Shape) → Sized s m → Sized s (raise m v h)
  unfolding raise
  raise_sized s sz =
      record {
        words = sz.words;
        heads = both (λ (l : List ℕ). length l ≡ 2 * processes s) (head_is m v h) (length-set m.heads v (h + 1) ∙ sz.heads) sz.heads;
      }
