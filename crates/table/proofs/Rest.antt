-- The entries of an array of starts that are not yet those of nodes, and those past the last node.
use Prim.Native.Nat.{ℕ, zero, suc, ◌+◌, ◌*◌, ◌-◌, ◌≤◌, ◌<◌}
use native.Mathlib.Nat.{not-suc-le-zero}
use native.Mathlib.Decide.{ℕ_discrete}
use native.Mathlib.Omega.{arith}
use mathlib.Core.Path.{◌≡◌, ap, ◌∙◌}
use mathlib.Core.Bool.{true}
use mathlib.Core.List.{List, ◌∷◌}
use lib.ListN.{get_or, set, replicate, get_or-replicate, take, drop}
use lib.Seq.{get_or-set_other}
use Rattle.tree.specs.Shape.{Shape, processes}
use Rattle.tree.specs.Layout.{part_start, words_needed}
use Rattle.tree.specs.Blocks.{word_in, block_in, absent}
use Rattle.tree.proofs.Sizes.{words_needed_lem}
use Rattle.table.specs.Starts.{StartsOf}

-- before any start is computed
pub rest_blank : (n u : ℕ) → 0 < u → u < 17 → get_or (0 ∷ replicate 16 n) u 0 ≡ n
rest_blank n zero h k = absurd (not-suc-le-zero h)
rest_blank n (suc u) h k = get_or-replicate 16 u n 0 (omega arith)

-- when one more is
pub rest_more : (l : List ℕ) (n v x : ℕ) → ((u : ℕ) → v < u → u < 17 → get_or l u 0 ≡ n) → (u : ℕ) → v + 1 < u → u < 17 → get_or (set l (v + 1) x) u 0 ≡ n
rest_more l n v x all u a b = get_or-set_other l (v + 1) u x 0 (omega arith) ∙ all u (omega arith) b

-- from where the last node's part ends, each is the words needed
pub rest_needed : (s : Shape) (l : List ℕ) → StartsOf s l → (v : ℕ) → 2 * processes s ≤ v → v < 17 → get_or l v 0 ≡ words_needed s
rest_needed s l of v k low = on (ℕ_discrete v (2 * processes s))
  where
    on : Dec (v ≡ 2 * processes s) → get_or l v 0 ≡ words_needed s
    on (yes e) = of.nodes v (omega arith) ∙ ap (part_start s) e ∙ words_needed_lem s
    on (no n) = of.rest v (omega arith) low

-- so nothing stands between two of them, and no block is there
pub lacking_absent : (t : List ℕ) (from to n i : ℕ) → from ≡ n → to ≡ n → absent (block_in (take (to - from) (drop from t)) i) ≡ true
unfolding absent block_in word_in
lacking_absent t from to n i a b = let z : to - from ≡ 0 = omega arith in rw z
