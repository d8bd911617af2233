-- A list with its numbers, by its parts; and a numbered list without them.
use Prim.Native.Nat.{ℕ, zero, suc, ◌+◌, ◌<◌}
use native.Mathlib.Omega.{arith}
use mathlib.Core.Path.{◌≡◌, refl, ap, ◌∙◌}
use mathlib.Core.List.{List, [], ◌∷◌, ◌++◌, map}
use lib.ListN.{length, take, get_or}
use Rattle.record.specs.declared.StepRecord.{StepRecord}
use Rattle.calls.specs.Numbered.{Numbered, next_after, numbered_after, numbered}

-- the records alone
abbrev pub items : List Numbered → List StepRecord
items ns = map (λ (n : Numbered). n.item) ns

after_append : (i : ℕ) (rs ts : List StepRecord) → numbered_after i (rs ++ ts) ≡ numbered_after i rs ++ numbered_after (i + length rs) ts
unfolding numbered_after
after_append i [] ts = let e : i + 0 ≡ i = omega arith in rw e
after_append i (r ∷ rs) ts = let e : i + suc (length rs) ≡ i + 1 + length rs = omega arith in rw (e, after_append (i + 1) rs ts)

pub numbered_append : (rs ts : List StepRecord) → numbered (rs ++ ts) ≡ numbered rs ++ numbered_after (length rs) ts
unfolding numbered
numbered_append rs ts = after_append 0 rs ts ∙ ap (λ (i : ℕ). numbered_after 0 rs ++ numbered_after i ts) (omega arith)

pub numbered_snoc : (rs : List StepRecord) (r : StepRecord) → numbered (rs ++ (r ∷ [])) ≡ numbered rs ++ (next_after (length rs) r ∷ [])
unfolding numbered_after
numbered_snoc rs r = numbered_append rs (r ∷ [])

after_items : (i : ℕ) (rs : List StepRecord) → items (numbered_after i rs) ≡ rs
unfolding numbered_after
after_items i [] = refl
after_items i (r ∷ rs) = ap (λ (l : List StepRecord). r ∷ l) (after_items (i + 1) rs)

pub items_numbered : (rs : List StepRecord) → items (numbered rs) ≡ rs
unfolding numbered
items_numbered rs = after_items 0 rs

after_length : (i : ℕ) (rs : List StepRecord) → length (numbered_after i rs) ≡ length rs
unfolding numbered_after
after_length i [] = refl
after_length i (r ∷ rs) = ap suc (after_length (i + 1) rs)

pub numbered_length : (rs : List StepRecord) → length (numbered rs) ≡ length rs
unfolding numbered
numbered_length rs = after_length 0 rs

after_take : (i j : ℕ) (rs : List StepRecord) → take j (numbered_after i rs) ≡ numbered_after i (take j rs)
unfolding numbered_after
after_take i zero rs = refl
after_take i (suc j) [] = refl
after_take i (suc j) (r ∷ rs) = ap (λ (l : List Numbered). next_after i r ∷ l) (after_take (i + 1) j rs)

-- its first records, and the number of each
pub numbered_take : (j : ℕ) (rs : List StepRecord) → take j (numbered rs) ≡ numbered (take j rs)
unfolding numbered
numbered_take j rs = after_take 0 j rs

after_at : (i j : ℕ) (rs : List StepRecord) → j < length rs → (d : Numbered) → (get_or (numbered_after i rs) j d).number ≡ i + suc j
unfolding numbered_after
after_at i j [] l d = absurd (omega arith)
after_at i zero (r ∷ rs) l d = omega arith
after_at i (suc j) (r ∷ rs) l d = omega (arith, after_at (i + 1) j rs (omega arith) d)

pub numbered_at : (j : ℕ) (rs : List StepRecord) → j < length rs → (d : Numbered) → (get_or (numbered rs) j d).number ≡ suc j
unfolding numbered
numbered_at j rs l d = omega (arith, after_at 0 j rs l d)

-- ---- numbers that rise along a list, from above a number on, and the last of them
abbrev pub RisesFrom : ℕ → List Numbered → Type 0
RisesFrom i [] = Unit {0}
RisesFrom i (n ∷ ns) = (i < n.number) × RisesFrom n.number ns

abbrev pub last_from : ℕ → List Numbered → ℕ
last_from i [] = i
last_from i (n ∷ ns) = last_from n.number ns

after_rises : (i : ℕ) (rs : List StepRecord) → RisesFrom i (numbered_after i rs)
unfolding numbered_after
after_rises i [] = tt
after_rises i (r ∷ rs) = (omega arith, after_rises (i + 1) rs)

pub numbered_rises : (rs : List StepRecord) → RisesFrom 0 (numbered rs)
unfolding numbered
numbered_rises rs = after_rises 0 rs
