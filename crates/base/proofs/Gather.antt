-- Lists gathered over the numbers between two numbers: flat_map f (between i j).
use Prim.Native.Nat.{ℕ, zero, suc, ◌+◌, ◌-◌, ◌≤◌, ◌<◌}
use native.Mathlib.Omega.{arith}
use native.Mathlib.Nat.{le_refl, zero-add, add-zero, add-suc, suc-add, sub_self}
use mathlib.Core.Path.{◌≡◌, refl, ap, sym, ◌∙◌}
use mathlib.Core.List.{List, [], ◌∷◌, ◌++◌, map, flat_map, append-nil, append_assoc}
use lib.ListN.{length, get_or, get_or-append}
use lib.Seq.{get_or-append-add}
use Rattle.base.specs.Between.{following, between}
use Rattle.base.specs.Members.{All}
use Rattle.base.proofs.Members.{all_append}

-- ---- the numbers
pub between_self : (i : ℕ) → between i i ≡ []
unfolding between following
between_self i = rw (sub_self i)

following_add : (n k a : ℕ) → following a (n + k) ≡ following a n ++ following (a + n) k
unfolding following
following_add zero k a = rw (zero-add k, add-zero a)
following_add (suc n) k a = rw (suc-add n k, add-suc a n, ← suc-add a n) (ap (λ l. suc a ∷ l) (following_add n k (suc a)))

pub between_split : (i j k : ℕ) → i ≤ j → j ≤ k → between i k ≡ between i j ++ between j k
unfolding between
between_split i j k p q =
    let e : k - i ≡ (j - i) + (k - j) = omega arith in
    let f : i + (j - i) ≡ j = omega arith in
    ap (following i) e ∙ following_add (j - i) (k - j) i ∙ ap (λ (a : ℕ). following i (j - i) ++ following a (k - j)) f

pub between_first : (i j : ℕ) → i < j → between i j ≡ suc i ∷ between (suc i) j
unfolding between following
between_first i j l = let e : j - i ≡ suc (j - suc i) = omega arith in ap (following i) e

pub between_last : (i j : ℕ) → i ≤ j → between i (suc j) ≡ between i j ++ suc j ∷ []
between_last i j l = rw (between_split i j (suc j) l (omega arith), between_first j (suc j) (le_refl _), between_self (suc j))

-- what holds of no number, and of one more number before others, holds of all numbers between i and j
pub between_all : (P : ℕ → List ℕ → Type 0) (j : ℕ) → P j [] → ((i : ℕ) (l : List ℕ) → i < j → P (suc i) l → P i (suc i ∷ l)) → (i : ℕ) → i ≤ j → P i (between i j)
between_all P j none more i le = go (j - i) i (omega arith)
  where
    go : (n i : ℕ) → i + n ≡ j → P i (between i j)
    go zero i e = let f : i ≡ j = omega arith in rw (f, between_self j) none
    go (suc n) i e = rw (between_first i j (omega arith)) (more i (between (suc i) j) (omega arith) (go n (suc i) (omega arith)))

-- ---- what is gathered
pub flat_map-append : {A B : Type 0} (f : B → List A) (xs ys : List B) → flat_map f (xs ++ ys) ≡ flat_map f xs ++ flat_map f ys
unfolding flat_map
flat_map-append f [] ys = refl
flat_map-append f (x ∷ xs) ys = ap (λ l. f x ++ l) (flat_map-append f xs ys) ∙ sym (append_assoc (f x) (flat_map f xs) (flat_map f ys))

-- gathered in two rounds, or in one
pub flat_map-twice : {A B C : Type 0} (f : B → List A) (g : C → List B) (xs : List C) → flat_map f (flat_map g xs) ≡ flat_map (λ x. flat_map f (g x)) xs
unfolding flat_map
flat_map-twice f g [] = refl
flat_map-twice f g (x ∷ xs) = flat_map-append f (g x) (flat_map g xs) ∙ ap (λ l. flat_map f (g x) ++ l) (flat_map-twice f g xs)

pub flat_map-map : {A B C : Type 0} (f : B → List A) (g : C → B) (xs : List C) → flat_map f (map g xs) ≡ flat_map (λ x. f (g x)) xs
unfolding flat_map
flat_map-map f g [] = refl
flat_map-map f g (x ∷ xs) = ap (λ l. f (g x) ++ l) (flat_map-map f g xs)

module _ {A : Type 0} where
  module _ (f : ℕ → List A) where
    pub gather_none : (i : ℕ) → flat_map f (between i i) ≡ []
    unfolding flat_map
    gather_none i = rw (between_self i)

    pub gather_split : (i j k : ℕ) → i ≤ j → j ≤ k → flat_map f (between i k) ≡ flat_map f (between i j) ++ flat_map f (between j k)
    gather_split i j k p q = ap (flat_map f) (between_split i j k p q) ∙ flat_map-append f (between i j) (between j k)

    pub gather_first : (i j : ℕ) → i < j → flat_map f (between i j) ≡ f (suc i) ++ flat_map f (between (suc i) j)
    unfolding flat_map
    gather_first i j l = rw (between_first i j l)

    pub gather_last : (i j : ℕ) → i ≤ j → flat_map f (between i (suc j)) ≡ flat_map f (between i j) ++ f (suc j)
    unfolding flat_map
    gather_last i j l =
        ap (flat_map f) (between_last i j l) ∙ flat_map-append f (between i j) (suc j ∷ []) ∙ ap (λ l. flat_map f (between i j) ++ l) (append-nil (f (suc j)))

    -- the first numbers, then one, then the rest
    pub gather_at : (i j k : ℕ) → i ≤ j → j < k → flat_map f (between i k) ≡ flat_map f (between i j) ++ (f (suc j) ++ flat_map f (between (suc j) k))
    gather_at i j k p q = gather_split i j k p (omega arith) ∙ ap (λ l. flat_map f (between i j) ++ l) (gather_first j k q)

    -- an element past what is gathered up to j, and within what the next number gives, is there
    pub gather_get : (x : A) (i j k n : ℕ) → i ≤ j → j < k → length (flat_map f (between i j)) ≤ n → n < length (flat_map f (between i j)) + length (f (suc j))
        → get_or (flat_map f (between i k)) n x ≡ get_or (f (suc j)) (n - length (flat_map f (between i j))) x
    gather_get x i j k n p q low high =
        let before : List A = flat_map f (between i j) in
        let after : List A = flat_map f (between (suc j) k) in
        let e : n ≡ length before + (n - length before) = omega arith in
        ap (λ (l : List A). get_or l n x) (gather_at i j k p q)
        ∙ ap (λ (a : ℕ). get_or (before ++ (f (suc j) ++ after)) a x) e
        ∙ get_or-append-add before (f (suc j) ++ after) (n - length before) x
        ∙ get_or-append (f (suc j)) after x (n - length before) (omega arith)

  pub gather_same : (f g : ℕ → List A) (i j : ℕ) → i ≤ j → ((b : ℕ) → i ≤ b → b < j → f (suc b) ≡ g (suc b)) → flat_map f (between i j) ≡ flat_map g (between i j)
  unfolding flat_map
  gather_same f g i j le =
      between_all (λ a l. ((b : ℕ) → a ≤ b → b < j → f (suc b) ≡ g (suc b)) → flat_map f l ≡ flat_map g l) j (λ h. refl)
      (λ a l la ih h. rw (h a (le_refl _) la, ih (λ b al lb. h b (omega arith) lb))) i le

  pub gather_all : (P : A → Type 0) (f : ℕ → List A) (i j : ℕ) → i ≤ j → ((b : ℕ) → i ≤ b → b < j → All P (f (suc b))) → All P (flat_map f (between i j))
  unfolding flat_map
  gather_all P f i j le =
      between_all (λ a l. ((b : ℕ) → a ≤ b → b < j → All P (f (suc b))) → All P (flat_map f l)) j (λ h. tt)
      (λ a l la ih h. all_append P (f (suc a)) (flat_map f l) (h a (le_refl _) la) (ih (λ b al lb. h b (omega arith) lb))) i le

  -- a measure that adds up, and that the list at each number brings from G before it to G at it, is brought from G at
  -- the first to G at the last
  module _ (μ : List A → ℕ) (nil : μ [] ≡ 0) (app : (xs ys : List A) → μ (xs ++ ys) ≡ μ xs + μ ys) where
    pub gather_measure : (f : ℕ → List A) (G : ℕ → ℕ) (i j : ℕ) → i ≤ j → ((b : ℕ) → i ≤ b → b < j → μ (f (suc b)) + G b ≡ G (suc b))
        → μ (flat_map f (between i j)) + G i ≡ G j
    unfolding flat_map
    gather_measure f G i j le =
        between_all (λ a l. ((b : ℕ) → a ≤ b → b < j → μ (f (suc b)) + G b ≡ G (suc b)) → μ (flat_map f l) + G a ≡ G j) j (λ h. omega (arith, nil))
        (λ a l la ih h. omega (arith, app (f (suc a)) (flat_map f l), h a (le_refl _) la, ih (λ b al lb. h b (omega arith) lb))) i le
