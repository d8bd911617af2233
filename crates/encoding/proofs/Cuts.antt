-- The records that bytes are cut into: how many they are, which bytes each has, and what holds of each.
use Prim.Native.Nat.{ℕ, zero, suc, ◌+◌, ◌*◌, ◌≤◌, ◌<◌}
use native.Mathlib.Nat.{mul-zero, zero-add, suc-add, not-suc-le-zero}
use native.Mathlib.Omega.{arith}
use mathlib.Core.Path.{◌≡◌, refl, ap, sym, ◌∙◌, subst}
use mathlib.Core.List.{List, [], ◌∷◌, ◌++◌, map}
use lib.ListN.{length, get_or, take, drop, length-map, length-drop, get_or-map}
use lib.Seq.{drop-drop, take-append-le, drop-append-le}
use Rattle.base.specs.Members.{All}
use Rattle.base.proofs.Members.{all_at_lem}
use Rattle.std.specs.Simd.{first_chunks}
use Rattle.encoding.specs.Bytes.{cut}

pub cut_length_lem : (size n : ℕ) (bs : List ℕ) → length (cut size n bs) ≡ n
unfolding cut
cut_length_lem size zero bs = refl
cut_length_lem size (suc n) bs = ap suc (cut_length_lem size n (drop size bs))

pub cut_at : (size n i : ℕ) (bs d : List ℕ) → i < n → get_or (cut size n bs) i d ≡ take size (drop (size * i) bs)
unfolding cut
cut_at size zero i bs d h = absurd (not-suc-le-zero h)
cut_at size (suc n) zero bs d h = rw (mul-zero size)
cut_at size (suc n) (suc i) bs d h =
    let e : size + size * i ≡ size * suc i = omega arith in
    cut_at size n i (drop size bs) d (omega arith) ∙ ap (take size) (drop-drop (size * i) size bs ∙ ap (λ (k : ℕ). drop k bs) e)

-- bytes that whole records begin are cut into these records and those of the rest
pub cut_append : (size n k : ℕ) (xs ys : List ℕ) → length xs ≡ size * n → cut size (n + k) (xs ++ ys) ≡ cut size n xs ++ cut size k ys
unfolding cut
cut_append size zero k [] ys e = rw (zero-add k)
cut_append size zero k (x ∷ xs) ys e = absurd (omega (arith, rw mul-zero at e))
cut_append size (suc n) k xs ys e =
    let more : size + size * n ≡ size * suc n = omega arith in
    let within : size ≤ length xs = omega arith in
    rw (suc-add n k, take-append-le size xs ys within, drop-append-le size xs ys within)
    (ap (λ (l : List (List ℕ)). take size xs ∷ l) (cut_append size n k (drop size xs) ys (simp length-drop (omega arith))))

-- read from their bytes
module _ {A : Type 0} (read : List ℕ → A) (size n : ℕ) (bs : List ℕ) where
  pub read_length : length (map read (cut size n bs)) ≡ n
  read_length = rw (length-map, cut_length_lem size n bs)

  pub read_at : (i : ℕ) → i < n → get_or (map read (cut size n bs)) i (read []) ≡ read (take size (drop (size * i) bs))
  read_at i h = get_or-map read (cut size n bs) i [] ∙ ap read (cut_at size n i bs [] h)

-- the arrays that Rust cuts a slice into
pub chunks_cut : (size n : ℕ) (bs : List ℕ) → first_chunks size n bs ≡ cut size n bs
unfolding cut
chunks_cut size zero bs = refl
chunks_cut size (suc n) bs = ap (λ (l : List (List ℕ)). take size bs ∷ l) (chunks_cut size n (drop size bs))

-- the first records of more
pub cut_take : (size n m : ℕ) (bs : List ℕ) → n ≤ m → take n (cut size m bs) ≡ cut size n bs
unfolding cut
cut_take size zero m bs h = refl
cut_take size (suc n) zero bs h = absurd (omega arith)
cut_take size (suc n) (suc m) bs h = ap (λ (l : List (List ℕ)). take size bs ∷ l) (cut_take size n m (drop size bs) (omega arith))

-- one of them, read
pub chunk_read : {A : Type 0} (read : List ℕ → A) (size n i : ℕ) (bs : List ℕ) (x : A) (chunks : List (List ℕ)) (d : List ℕ)
    → chunks ≡ first_chunks size n bs → i < n → x ≡ read (get_or chunks i d) → x ≡ read (take size (drop (size * i) bs))
chunk_read read size n i bs x chunks d cut_so h is =
    is ∙ ap (λ (l : List (List ℕ)). read (get_or l i d)) (cut_so ∙ chunks_cut size n bs) ∙ ap read (cut_at size n i bs d h)

-- what holds of all of them, as read, holds of one
pub read_member : {A : Type 0} (read : List ℕ → A) (chunks : List (List ℕ)) (P : A → Type 0) → All P (map read chunks)
    → (i : ℕ) → i < length chunks → (d : List ℕ) (x : A) → x ≡ read (get_or chunks i d) → P x
read_member read chunks P p i h d x is =
    subst P (get_or-map read chunks i d ∙ sym is) (all_at_lem P (map read chunks) i (read d) p (omega (arith, length-map chunks read)))
