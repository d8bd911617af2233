-- A word of a node's part is one of the table's words, or past the part's end.
use Prim.Native.Nat.{ℕ, ◌+◌, ◌<◌}
use native.Mathlib.Omega.{arith}
use native.Mathlib.Decide.{dec_lt}
use mathlib.Core.Path.{◌≡◌, sym, ◌∙◌}
use mathlib.Core.List.{List}
use lib.ListN.{get_or, drop, length-take, get_or-eq_default}
use lib.Seq.{get_or-take, get_or-drop}
use Rattle.tree.specs.Shape.{Shape}
use Rattle.tree.specs.Layout.{part_start, part_words, part_of}

-- so it is the same in two tables that have the same word there
pub same_word : (s : Shape) (t u : List ℕ) (v i : ℕ) → get_or t (part_start s v + i) 0 ≡ get_or u (part_start s v + i) 0 → get_or (part_of s t v) i 0 ≡ get_or (part_of s u v) i 0
unfolding part_of
same_word s t u v i e = on (dec_lt i (part_words s v))
  where
    rest : List ℕ → List ℕ
    rest x = drop (part_start s v) x

    inside : (x : List ℕ) → i < part_words s v → get_or (part_of s x v) i 0 ≡ get_or x (part_start s v + i) 0
    inside x low = get_or-take (part_words s v) (rest x) i 0 low ∙ get_or-drop (part_start s v) x i 0

    past : (x : List ℕ) → (i < part_words s v → ⊥) → get_or (part_of s x v) i 0 ≡ 0
    past x high = get_or-eq_default (part_of s x v) 0 (omega (arith, length-take (part_words s v) (rest x)))

    on : Dec (i < part_words s v) → get_or (part_of s t v) i 0 ≡ get_or (part_of s u v) i 0
    on (yes low) = inside t low ∙ e ∙ sym (inside u low)
    on (no high) = past t high ∙ sym (past u high)
