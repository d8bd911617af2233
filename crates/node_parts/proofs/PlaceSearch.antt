-- A part as the arrays of its blocks, and the search of places 1 to `last` in them.
use Prim.Native.Nat.{ℕ, zero, suc, ◌+◌, ◌*◌, ◌-◌, ◌/◌, ◌≤◌, ◌<◌}
use native.Mathlib.Omega.{arith}
use native.Mathlib.Decide.{ℕ_discrete}
use mathlib.Core.Path.{◌≡◌, ap, ◌∙◌}
use mathlib.Core.Bool.{true, false}
use mathlib.Core.List.{List, []}
use lib.ListN.{length, get_or, take, drop, length-take, length-drop}
use lib.Dec.{ltb}
use borrow.Author.Tests.{ltb-true, ltb-false}
use Rattle.std.proofs.lemmas.List.{get_or-take, get_or-drop}
use Rattle.std.proofs.lemmas.Grind.{get_or_after_one}
use Rattle.std.specs.List.Sorted.{IsNonDecreasingBy, IsPartitionPoint}
use Rattle.std.specs.Simd.{first_chunks}
use Rattle.tree.specs.Layout.{block_words}
use Rattle.tree.specs.Blocks.{word_in}

-- word w of array i is that of the block at place i
array_word : (k i w : ℕ) (xs : List ℕ) (d : List ℕ) → i < k → w < block_words → get_or (get_or (first_chunks block_words k xs) i d) w 0 ≡ get_or xs (block_words * i + w) 0
array_word zero i w xs d h l = absurd (omega (arith, h))
array_word (suc k) zero w xs d h l = get_or-take block_words xs w 0 l ∙ ap (λ (j : ℕ). get_or xs j 0) (omega arith)
array_word (suc k) (suc i) w xs d h l =
    array_word k i w (drop block_words xs) d (omega arith) l
    ∙ get_or-drop block_words xs (block_words * i + w) 0
    ∙ ap (λ (j : ℕ). get_or xs j 0) (omega arith)

module _ (part : List ℕ) (word last x : ℕ) (known : word < block_words) (some : 1 ≤ last) (fits : block_words * last + block_words ≤ length part)
    (bs : List (List ℕ)) (front : bs ≡ first_chunks block_words (length part / block_words) part) (all : length bs ≡ length part / block_words)
  where
    -- the arrays of places 1 to last − 1
    abbrev searched : List (List ℕ)
    searched = take (last - 1) (drop 1 bs)

    searched_length : length searched ≡ last - 1
    searched_length = simp (length-take, length-drop) (omega (arith, all))

    reads : (j : ℕ) (d : List ℕ) → j < last - 1 → get_or (get_or searched j d) word 0 ≡ word_in part (1 + j) word
    unfolding word_in
    reads j d h =
        ap (λ b. get_or b word 0) (get_or-take (last - 1) (drop 1 bs) j d h ∙ get_or_after_one bs j d ∙ ap (λ l. get_or l (1 + j) d) front)
        ∙ array_word (length part / block_words) (1 + j) word part d (omega arith) known

    pub rises : ((i j : ℕ) → 1 ≤ i → i ≤ j → j ≤ last → word_in part i word ≤ word_in part j word) → IsNonDecreasingBy (λ (b : List ℕ). get_or b word 0) searched
    rises up i j d le lt =
        let l : j < last - 1 = omega (arith, searched_length) in
        rw (reads i d (omega arith), reads j d l) (up (1 + i) (1 + j) (omega arith) (omega arith) (omega arith))

    module _ (r : ℕ) (bound : r ≤ length searched)
        (point : IsPartitionPoint (λ (b : List ℕ). ltb (get_or b word 0) x ≡ true) (λ (b : List ℕ). ltb (get_or b word 0) x ≡ false) searched r)
      where
        pub place_first : (i : ℕ) → 1 ≤ i → i < 1 + r → word_in part i word < x
        place_first i a b =
            let e : 1 + (i - 1) ≡ i = omega arith in
            rw (reads (i - 1) [] (omega (arith, searched_length)), e) at (ltb-true _ _ (point.0 (i - 1) [] (omega arith) (omega arith)))

        pub place_reaches : x ≤ word_in part last word → (1 ≤ 1 + r) × (1 + r ≤ last) × (x ≤ word_in part (1 + r) word)
        place_reaches h = (omega arith, omega (arith, searched_length), on (ℕ_discrete r (last - 1)))
          where
            on : Dec (r ≡ last - 1) → x ≤ word_in part (1 + r) word
            on (yes e) = let f : 1 + r ≡ last = omega arith in rw f h
            on (no n) =
                let l : r < last - 1 = omega (arith, searched_length) in
                rw (reads r [] l) at (ltb-false _ _ (point.1 r [] (omega arith) (omega (arith, searched_length))))
