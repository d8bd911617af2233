-- The nodes' parts of the table do not overlap: a part that was replaced reads as the new part, and each other as
-- before.
use Prim.Native.Nat.{ℕ, zero, suc, ◌+◌, ◌≤◌, ◌<◌}
use native.Mathlib.Omega.{arith}
use native.Mathlib.Decide.{dec_lt, ℕ_discrete}
use native.Mathlib.Nat.{not-suc-le-zero, le_refl}
use mathlib.Core.Path.{◌≡◌, ap}
use mathlib.Core.Logic.{◌≢◌}
use mathlib.Core.List.{List}
use lib.ListN.{length, take, drop}
use Rattle.base.proofs.Splice.{splice_same, splice_before, splice_behind, splice_length}
use Rattle.tree.specs.Shape.{Shape}
use Rattle.tree.specs.Layout.{part_start, part_words, part_of, with_part}

-- the part of a node ends where or before the part of a later one starts
pub start_after : (s : Shape) (u v : ℕ) → u < v → part_start s u + part_words s u ≤ part_start s v
unfolding part_start
start_after s u zero h = absurd (not-suc-le-zero h)
start_after s u (suc v) h = on (ℕ_discrete u v) (λ l. start_after s u v l)
  where
    on : Dec (u ≡ v) → (u < v → part_start s u + part_words s u ≤ part_start s v) → part_start s u + part_words s u ≤ part_start s (suc v)
    on (yes e) ih = rw e (le_refl _)
    on (no n) ih = omega (arith, ih (omega arith))

module _ (s : Shape) (t : List ℕ) (v : ℕ) (x : List ℕ) (fits : part_start s v + part_words s v ≤ length t) (sized : length x ≡ part_words s v) where
  pub part_same : part_of s (with_part s t v x) v ≡ x
  unfolding part_of with_part
  part_same = splice_same t x (part_start s v) (part_words s v) fits sized

  pub part_other : (u : ℕ) → u ≢ v → part_of s (with_part s t v x) u ≡ part_of s t u
  unfolding part_of with_part
  part_other u ne = on (dec_lt u v)
    where
      on : Dec (u < v) → take (part_words s u) (drop (part_start s u) (with_part s t v x)) ≡ part_of s t u
      on (yes h) = splice_before t x (part_start s v) (part_words s v) fits sized (part_start s u) (part_words s u) (start_after s u v h)
      on (no h) = ap (take (part_words s u)) (splice_behind t x (part_start s v) (part_words s v) fits sized (part_start s u) (start_after s v u (omega arith)))

  pub part_length : length (with_part s t v x) ≡ length t
  unfolding with_part
  part_length = splice_length t x (part_start s v) (part_words s v) fits sized
