-- The cleared memory meets the memory invariant: all words zero, all heads 1.
use Prim.Native.Nat.{ℕ, suc, ◌+◌, ◌*◌, ◌<◌}
use native.Mathlib.Omega.{arith}
use native.Mathlib.Decide.{dec_lt}
use mathlib.Core.Path.{◌≡◌, refl, ap, ◌∙◌}
use lib.ListN.{get_or, take, drop, replicate, length-take, length-replicate, get_or-replicate, get_or-eq_default}
use lib.Seq.{get_or-take, get_or-drop}
use Rattle.tree.specs.Shape.{Shape, processes, leaf_of}
use Rattle.tree.specs.Layout.{block_words, part_start, part_words, part_of, words_needed}
use Rattle.tree.specs.Blocks.{word_in, block_at}
use Rattle.tree.specs.Memory.{Memory, head_of, block, memory_of}
use Rattle.tree.specs.Clauses.Invariant.{count, zeros, Sized, Sound}
use Rattle.tree.proofs.Writes.{block_zeros}

abbrev pub cleared : Shape → Memory
cleared s = memory_of (replicate (words_needed s) 0) (replicate (2 * processes s) 1)

-- an entry of a list of x's is x, past its end too
same_entries : (n i x : ℕ) → get_or (replicate n x) i x ≡ x
same_entries n i x = on (dec_lt i n)
  where
    on : Dec (i < n) → get_or (replicate n x) i x ≡ x
    on (yes h) = get_or-replicate n i x x h
    on (no h) = get_or-eq_default (replicate n x) x (rw (length-replicate {A = ℕ} n x) (omega arith))

-- and so of a part of it
part_entries : (n a b i x : ℕ) → get_or (take a (drop b (replicate n x))) i x ≡ x
part_entries n a b i x = on (dec_lt i a)
  where
    on : Dec (i < a) → get_or (take a (drop b (replicate n x))) i x ≡ x
    on (yes h) = get_or-take a (drop b (replicate n x)) i x h ∙ get_or-drop b (replicate n x) i x ∙ same_entries n (b + i) x
    on (no h) = get_or-eq_default (take a (drop b (replicate n x))) x (rw (length-take a (drop b (replicate n x))) (omega arith))

module _ (s : Shape) where
  pub cleared_head : (v : ℕ) → head_of (cleared s) v ≡ 1
  unfolding head_of
  cleared_head v = same_entries (2 * processes s) v 1

  pub cleared_block : (v i : ℕ) → block s (cleared s) v i ≡ zeros
  unfolding block block_at part_of word_in
  cleared_block v i =
      block_zeros (take (part_words s v) (drop (part_start s v) (replicate (words_needed s) 0))) i
      (λ j. part_entries (words_needed s) (part_words s v) (part_start s v) (block_words * i + j) 0)

  none : count zeros ≡ 0
  unfolding zeros
  none = refl

  pub cleared_count : (v i : ℕ) → count (block s (cleared s) v i) ≡ 0
  cleared_count v i = ap count (cleared_block v i) ∙ none

  pub cleared_sized : Sized s (cleared s)
  cleared_sized = record { words = length-replicate {A = ℕ} (words_needed s) 0; heads = length-replicate {A = ℕ} (2 * processes s) 1 }

  pub cleared_sound : Sound s (cleared s)
  cleared_sound =
      record {
        node =
            λ v nv.
            record {
              head = omega (arith, cleared_head v);
              filled = λ i a h. absurd (omega (arith, cleared_head v));
              empty = λ i h. cleared_count v i;
              first = cleared_count v 0;
              clear = λ i z. cleared_block v i;
              follows = λ i f. absurd (omega (arith, cleared_count v (suc i)));
              within = λ i. omega (arith, cleared_count v i);
            };
        joins = λ v iv i f. absurd (omega (arith, cleared_count v (suc i)));
        adds = λ k kp i f. absurd (omega (arith, cleared_count (leaf_of s k) (suc i)));
      }
