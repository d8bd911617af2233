-- Operations in lists: whether two are the same, how often one is there, and its number.
use Rattle.std.specs.Prelude.{if◌then◌else◌}
use Prim.Native.Nat.{ℕ, suc, ◌+◌, ◌≤◌, ◌<◌}
use native.Mathlib.Omega.{arith}
use native.Mathlib.Nat.{le_refl}
use mathlib.Core.Path.{◌≡◌, refl, ap, ◌∙◌}
use mathlib.Core.Bool.{Bool, true, false, and-false}
use mathlib.Core.List.{List, [], ◌∷◌, ◌++◌, flat_map}
use lib.ListN.{length}
use lib.Dec.{eqb}
use borrow.Author.Tests.{eqb-true, eq-eqb, ne_eqb}
use Rattle.base.specs.Between.{between}
use Rattle.base.proofs.Cases.{and-true}
use Rattle.base.proofs.Gather.{gather_at}
use Rattle.tree.specs.Order.{OpId}
use Rattle.tree.specs.Standing.{same, times, rank_in}

pub same_refl : (x : OpId) → same x x ≡ true
unfolding same
same_refl x = rw (eq-eqb x.process x.process refl, eq-eqb x.serial x.serial refl)

pub same_eq : (x y : OpId) → same x y ≡ true → x ≡ y
unfolding same
same_eq x y e =
    let b = and-true (eqb x.process y.process) (eqb x.serial y.serial) e in
    λ i. record { process = eqb-true x.process y.process b.0 i; serial = eqb-true x.serial y.serial b.1 i }

-- operations of two processes, or of two serials
pub other_process : (x y : OpId) → (x.process ≡ y.process → ⊥) → same x y ≡ false
unfolding same
other_process x y d = rw (ne_eqb x.process y.process d)

pub other_serial : (x y : OpId) → (x.serial ≡ y.serial → ⊥) → same x y ≡ false
unfolding same
other_serial x y d = rw (ne_eqb x.serial y.serial d, and-false)

-- ---- lists of operations

-- a count of the elements that pass a test adds up over two lists
pub count_append : {A : Type 0} (test : A → Bool) (n : List A → ℕ) → n [] ≡ 0 → ((x : A) (xs : List A) → n (x ∷ xs) ≡ (if test x then suc (n xs) else n xs))
    → (xs ys : List A) → n (xs ++ ys) ≡ n xs + n ys
count_append test n none more [] ys = omega (arith, none)
count_append test n none more (x ∷ xs) ys = rw (more x (xs ++ ys), more x xs) (on (test x) (count_append test n none more xs ys))
  where
    on : (b : Bool) → n (xs ++ ys) ≡ n xs + n ys → (if b then suc (n (xs ++ ys)) else n (xs ++ ys)) ≡ (if b then suc (n xs) else n xs) + n ys
    on true ih = omega arith
    on false ih = omega arith

module _ (x : OpId) where
  pub times_append : (ys zs : List OpId) → times x (ys ++ zs) ≡ times x ys + times x zs
  unfolding times
  times_append = count_append (same x) (times x) refl (λ y ys. refl)

  pub rank_none : (xs : List OpId) → times x xs ≡ 0 → rank_in x xs ≡ 0
  unfolding times rank_in
  rank_none [] h = refl
  rank_none (y ∷ ys) h = on (same x y) h (rank_none ys)
    where
      on : (b : Bool) → (if b then suc (times x ys) else times x ys) ≡ 0 → (times x ys ≡ 0 → rank_in x ys ≡ 0)
          → (if b then 1 else (if eqb (rank_in x ys) 0 then 0 else suc (rank_in x ys))) ≡ 0
      on true h ih = absurd (omega arith)
      on false h ih = rw (eq-eqb (rank_in x ys) 0 (ih h))

  pub rank_some : (xs : List OpId) → 1 ≤ times x xs → 1 ≤ rank_in x xs
  unfolding times rank_in
  rank_some [] h = absurd (omega arith)
  rank_some (y ∷ ys) h = on (same x y) h (rank_some ys)
    where
      on : (b : Bool) → 1 ≤ (if b then suc (times x ys) else times x ys) → (1 ≤ times x ys → 1 ≤ rank_in x ys)
          → 1 ≤ (if b then 1 else (if eqb (rank_in x ys) 0 then 0 else suc (rank_in x ys)))
      on true h ih = le_refl _
      on false h ih = let l = ih h in rw (ne_eqb (rank_in x ys) 0 (λ e. omega arith)) (omega arith)

  -- its number where two lists meet: past the first list if it is only in the second
  pub rank_left : (xs ys : List OpId) → 1 ≤ times x xs → rank_in x (xs ++ ys) ≡ rank_in x xs
  unfolding times rank_in
  rank_left [] ys h = absurd (omega arith)
  rank_left (y ∷ xs) ys h = on (same x y) h (rank_left xs ys)
    where
      on : (b : Bool) → 1 ≤ (if b then suc (times x xs) else times x xs) → (1 ≤ times x xs → rank_in x (xs ++ ys) ≡ rank_in x xs)
          → (if b then 1 else (if eqb (rank_in x (xs ++ ys)) 0 then 0 else suc (rank_in x (xs ++ ys))))
          ≡ (if b then 1 else (if eqb (rank_in x xs) 0 then 0 else suc (rank_in x xs)))
      on true h ih = refl
      on false h ih = rw (ih h)

  pub rank_right : (xs ys : List OpId) → times x xs ≡ 0 → 1 ≤ times x ys → rank_in x (xs ++ ys) ≡ length xs + rank_in x ys
  unfolding times rank_in
  rank_right [] ys none h = omega arith
  rank_right (y ∷ xs) ys none h = on (same x y) none (λ e. rank_right xs ys e h) (rank_some ys h)
    where
      on : (b : Bool) → (if b then suc (times x xs) else times x xs) ≡ 0 → (times x xs ≡ 0 → rank_in x (xs ++ ys) ≡ length xs + rank_in x ys) → 1 ≤ rank_in x ys
          → (if b then 1 else (if eqb (rank_in x (xs ++ ys)) 0 then 0 else suc (rank_in x (xs ++ ys)))) ≡ suc (length xs) + rank_in x ys
      on true none ih l = absurd (omega arith)
      on false none ih l = let e = ih none in rw (ne_eqb (rank_in x (xs ++ ys)) 0 (λ z. omega arith)) (omega arith)

  -- its number in what is gathered, if it is in what suc j gives and in nothing before
  pub rank_gather : (f : ℕ → List OpId) (i j k : ℕ) → i ≤ j → j < k → times x (flat_map f (between i j)) ≡ 0 → 1 ≤ times x (f (suc j))
      → rank_in x (flat_map f (between i k)) ≡ length (flat_map f (between i j)) + rank_in x (f (suc j))
  rank_gather f i j k p q none h =
      let before : List OpId = flat_map f (between i j) in
      let after : List OpId = flat_map f (between (suc j) k) in
      ap (rank_in x) (gather_at f i j k p q)
      ∙ rank_right before (f (suc j) ++ after) none (omega (arith, times_append (f (suc j)) after))
      ∙ ap (λ (n : ℕ). length before + n) (rank_left (f (suc j)) after h)
