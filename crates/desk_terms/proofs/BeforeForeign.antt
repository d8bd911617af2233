-- The records before the first foreign entry are as many as the place of that entry among the arrays of their bytes.
use Prim.Native.Nat.{ℕ, ◌≤◌}
use native.Mathlib.Numerals.{one-add}
use native.Mathlib.Omega.{arith}
use mathlib.Core.Path.{◌≡◌, refl, sym, ◌∙◌}
use mathlib.Core.Bool.{Bool, true, false}
use mathlib.Core.List.{List, map}
use lib.ListN.{length}
use borrow.Author.Tests.{ltb-false}
use Rattle.std.specs.Prelude.{Some, None, cond, nat_lt, position, unwrap_or}
use Rattle.std.proofs.lemmas.List.Recursion.{is_position_or_len}
use Rattle.std.proofs.lemmas.List.Sums.{prefix_len-le-length}
use Rattle.record.specs.StepRecords.{step_record}
use Rattle.desk_rules.specs.Entries.{is_foreign}
use Rattle.desk_terms.specs.Clauses.Foreign.{before_foreign}

-- a place that is given only below m
given_below : (n m : ℕ) → n ≤ m → unwrap_or (cond (nat_lt n m) (Some n) None) m ≡ n
given_below n m h = on (nat_lt n m) refl
  where
    on : (b : Bool) → nat_lt n m ≡ b → unwrap_or (cond b (Some n) None) m ≡ n
    on true e = refl
    on false e = omega (arith, ltb-false n m e)

pub first_place : (licensed : ℕ) (xs : List (List ℕ))
    → unwrap_or (position (λ bytes. is_foreign licensed (step_record bytes)) xs) (length xs) ≡ before_foreign licensed (map step_record xs)
unfolding before_foreign
first_place licensed xs =
    given_below _ _ (prefix_len-le-length _ xs)
    ∙ sym (is_position_or_len (λ (ys : List (List ℕ)). before_foreign licensed (map step_record ys)) (λ (bytes : List ℕ). is_foreign licensed (step_record bytes)) refl (λ x ys. rw one-add) xs)
