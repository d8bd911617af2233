-- What holds of every member of a list: of those of two lists, of what they are mapped to, of the i-th; and the members
-- of the list of numbers between two numbers are these numbers.
use Prim.Native.Nat.{ℕ, zero, suc, ◌+◌, ◌≤◌, ◌<◌}
use native.Mathlib.Nat.{not-suc-le-zero}
use native.Mathlib.Omega.{arith}
use native.Mathlib.Decide.{ℕ_discrete}
use mathlib.Core.Path.{◌≡◌, sym, subst}
use mathlib.Core.List.{List, [], ◌∷◌, ◌++◌, map}
use lib.ListN.{length, get_or}
use Rattle.base.specs.Between.{following, between}
use Rattle.base.specs.Members.{All}

pub all_map : {A : Type 0} {P Q : A → Type 0} (xs : List A) → ((x : A) → P x → Q x) → All P xs → All Q xs
all_map [] f p = tt
all_map (x ∷ xs) f p = (f x p.0, all_map xs f p.1)

pub all_mapped : {A B : Type 0} (P : B → Type 0) (f : A → B) (xs : List A) → All (λ x. P (f x)) xs → All P (map f xs)
all_mapped P f [] p = tt
all_mapped P f (x ∷ xs) p = (p.0, all_mapped P f xs p.1)

pub all_at_lem : {A : Type 0} (P : A → Type 0) (xs : List A) (i : ℕ) (d : A) → All P xs → i < length xs → P (get_or xs i d)
all_at_lem P [] i d p h = absurd (not-suc-le-zero h)
all_at_lem P (x ∷ xs) zero d p h = p.0
all_at_lem P (x ∷ xs) (suc i) d p h = all_at_lem P xs i d p.1 (omega arith)

pub all_append : {A : Type 0} (P : A → Type 0) (xs ys : List A) → All P xs → All P ys → All P (xs ++ ys)
all_append P [] ys p q = q
all_append P (x ∷ xs) ys p q = (p.0, all_append P xs ys p.1 q)

members_following : (P : ℕ → Type 0) (n i : ℕ) → ((k : ℕ) → i < k → k ≤ i + n → P k) → All P (following i n)
unfolding following
members_following P zero i p = tt
members_following P (suc n) i p = (p (suc i) (omega arith) (omega arith), members_following P n (suc i) (λ k l g. p k (omega arith) (omega arith)))

pub members_between : (P : ℕ → Type 0) (i j : ℕ) → ((k : ℕ) → i < k → k ≤ j → P k) → All P (between i j)
unfolding between
members_between P i j p = members_following P _ i (λ k l g. p k l (omega arith))

member_following : (P : ℕ → Type 0) (n i : ℕ) → All P (following i n) → (k : ℕ) → i < k → k ≤ i + n → P k
unfolding following
member_following P zero i p k l g = absurd (omega arith)
member_following P (suc n) i p k l g = on (ℕ_discrete k (suc i)) (λ h. member_following P n (suc i) p.1 k h (omega arith))
  where
    on : Dec (k ≡ suc i) → (suc i < k → P k) → P k
    on (yes e) later = subst P (sym e) p.0
    on (no e) later = later (omega arith)

pub member_between : (P : ℕ → Type 0) (i j : ℕ) → All P (between i j) → (k : ℕ) → i < k → k ≤ j → P k
unfolding between
member_between P i j p k l g = member_following P _ i p k l (omega arith)
