-- A run of stores into a list: the stored values stand there, and all others stay. One store, by cases.
use Prim.Native.Nat.{ℕ, zero, suc, ◌+◌, ◌-◌, ◌≤◌, ◌<◌}
use native.Mathlib.Omega.{arith}
use native.Mathlib.Decide.{dec_lt, ℕ_discrete}
use native.Mathlib.Nat.{not-suc-le-zero, le_refl, suc-add, add-suc, add-zero}
use mathlib.Core.Path.{◌≡◌, refl, ap, sym, ◌∙◌}
use mathlib.Core.List.{List, [], ◌∷◌, ◌++◌, append_assoc}
use lib.ListN.{length, get_or, take, drop, set, length-set}
use lib.Seq.{sets, sets-eq, get_or-set_same, get_or-set_other, set_out}
use borrow.Rule.Slice.PartMut.{put_mid, Post-is}

pub sets_before : (vs l : List ℕ) (a k : ℕ) → k < a → get_or (sets l a vs) k 0 ≡ get_or l k 0
sets_before [] l a k h = refl
sets_before (v ∷ vs) l a k h = sets_before vs (set l a v) (suc a) k (omega arith) ∙ get_or-set_other l a k v 0 (omega arith)

pub sets_behind : (vs l : List ℕ) (a k : ℕ) → a + length vs ≤ k → get_or (sets l a vs) k 0 ≡ get_or l k 0
sets_behind [] l a k h = refl
sets_behind (v ∷ vs) l a k h = sets_behind vs (set l a v) (suc a) k (omega arith) ∙ get_or-set_other l a k v 0 (omega arith)

pub sets_here : (vs l : List ℕ) (a k : ℕ) → a + length vs ≤ length l → k < length vs → get_or (sets l a vs) (a + k) 0 ≡ get_or vs k 0
sets_here [] l a k fits h = absurd (not-suc-le-zero h)
sets_here (v ∷ vs) l a zero fits h = rw add-zero (sets_before vs (set l a v) (suc a) a (le_refl _) ∙ get_or-set_same l a v 0 (omega arith))
sets_here (v ∷ vs) l a (suc k) fits h = rw (add-suc, ← suc-add) (sets_here vs (set l a v) (suc a) k (rw length-set (omega arith)) (omega arith))

-- a part of a list that is overwritten whole is a run of stores
pub part_stored : (l xs : List ℕ) (i e : ℕ) → e ≤ length l → i + length xs ≡ e → put_mid i (e - i) l xs ≡ sets l i xs
part_stored l xs i e h f =
    ap (λ (t : List ℕ). take i l ++ (xs ++ t)) (Post-is i e l (omega arith))
    ∙ sym (append_assoc (take i l) xs (drop e l))
    ∙ ap (λ (k : ℕ). take i l ++ xs ++ drop k l) (sym f)
    ∙ sym (sets-eq xs l i (omega arith))

-- a run of stores that follows another makes one run with it
pub runs : (l xs ys : List ℕ) (i j : ℕ) → i + length xs ≡ j → sets (sets l i xs) j ys ≡ sets l i (xs ++ ys)
runs l [] ys i j e = ap (λ (k : ℕ). sets l k ys) (omega arith)
runs l (x ∷ xs) ys i j e = runs (set l i x) xs ys (suc i) j (omega arith)

-- an entry after one store is the new one, if it stands there, or what it was; a store past the end changes nothing
pub set_cases : {A : Type 0} (P : A → Type 0) (l : List A) (u v : ℕ) (x d : A) → (v ≡ u → P x) → P (get_or l v d) → P (get_or (set l u x) v d)
set_cases P l u v x d here there = on (ℕ_discrete v u) (dec_lt u (length l))
  where
    on : Dec (v ≡ u) → Dec (u < length l) → P (get_or (set l u x) v d)
    on (yes e) (yes h) = rw (e, get_or-set_same l u x d h) (here e)
    on (yes e) (no h) = rw (set_out l u x (omega arith)) there
    on (no e) q = rw (get_or-set_other l u v x d e) there
