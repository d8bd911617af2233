-- Numbers that fit their bytes are read as they were written; so are the records of a list.
use Prim.Native.Nat.{ℕ, zero, suc, ◌/◌, ◌^◌, ◌<◌}
use native.Mathlib.Nat.{pow-succ'}
use native.Mathlib.Omega.{arith}
use mathlib.Core.Path.{◌≡◌, refl, ap}
use mathlib.Core.List.{List, [], ◌∷◌, ◌++◌, map, flat_map, append_assoc}
use lib.ListN.{length}
use lib.Seq.{take_at, drop_at}
use Rattle.base.specs.Members.{All}
use Rattle.encoding.specs.Bytes.{bytes_of, number_of, cut}

pub number_back : (n x : ℕ) → x < 256 ^ n → number_of (bytes_of n x) ≡ x
unfolding bytes_of number_of
number_back zero x h = omega arith
number_back (suc n) x h = omega (arith, number_back n (x / 256) (omega (arith, pow-succ' 256 n)))

-- records of `size` bytes each, read from the bytes that they were written as
pub list_back : {A : Type 0} (size : ℕ) (write : A → List ℕ) (read : List ℕ → A) → ((x : A) → length (write x) ≡ size)
    → (xs : List A) (rest : List ℕ) → All (λ x. read (write x) ≡ x) xs → map read (cut size (length xs) (flat_map write xs ++ rest)) ≡ xs
unfolding cut flat_map
list_back size write read long [] rest back = refl
list_back size write read long (x ∷ xs) rest back =
    rw (
      append_assoc (write x) (flat_map write xs) rest,
      take_at (write x) (flat_map write xs ++ rest) size (long x),
      drop_at (write x) (flat_map write xs ++ rest) size (long x),
      back.0,
    )
    (ap (λ l. x ∷ l) (list_back size write read long xs rest back.1))
