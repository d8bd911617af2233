-- Rust's bytes of a number, low byte first, are those of the definitions: one, two and four bytes.
use Prim.Native.Nat.{ℕ, suc, ◌+◌, ◌/◌, ◌≤◌, ◌<◌}
use native.Mathlib.Nat.{mod-eq_of_lt}
use native.Mathlib.Omega.{arith}
use mathlib.Core.Path.{◌≡◌, refl, ap, ◌∙◌}
use mathlib.Core.List.{List, [], ◌∷◌}
use lib.ListN.{length, get_or, take, drop}
use lib.Seq.{drop-cons}
use Rattle.std.specs.Int.{w16, w32, from_le_bytes, to_le_bytes}
use Rattle.encoding.specs.Bytes.{bytes_of, number_of}

-- ---- written
pub byte_bytes : (x : ℕ) → x < 256 → x ∷ [] ≡ bytes_of 1 x
unfolding bytes_of
byte_bytes x h = rw (mod-eq_of_lt {n = x} {m = 256} h)

pub half_bytes : (x : ℕ) → to_le_bytes w16 x ≡ bytes_of 2 x
unfolding bytes_of
half_bytes x = refl

pub word_bytes : (x : ℕ) → to_le_bytes w32 x ≡ bytes_of 4 x
unfolding bytes_of
word_bytes x =
    let third : x / 65536 ≡ x / 256 / 256 = omega arith in
    let fourth : x / 16777216 ≡ x / 256 / 256 / 256 = omega arith in
    rw (third, fourth)

-- ---- read, where they stand among others
module _ (b : List ℕ) where
  next_byte : (at : ℕ) → at < length b → drop at b ≡ get_or b at 0 ∷ drop (at + 1) b
  next_byte at h =
      let e : suc at ≡ at + 1 = omega arith in
      drop-cons b at 0 h ∙ ap (λ (k : ℕ). get_or b at 0 ∷ drop k b) e

  two_bytes : (at : ℕ) → at + 2 ≤ length b → drop at b ≡ get_or b at 0 ∷ get_or b (at + 1) 0 ∷ drop (at + 2) b
  two_bytes at h =
      let e : at + 1 + 1 ≡ at + 2 = omega arith in
      next_byte at (omega arith) ∙ rw (next_byte (at + 1) (omega arith), e)

  module _ (at : ℕ) where
    pub half_number : at + 2 ≤ length b → from_le_bytes w16 (get_or b at 0 ∷ get_or b (at + 1) 0 ∷ []) ≡ number_of (take 2 (drop at b))
    unfolding number_of
    half_number h = rw (two_bytes at h) (omega arith)

    pub word_number : at + 4 ≤ length b
        → from_le_bytes w32 (get_or b at 0 ∷ get_or b (at + 1) 0 ∷ get_or b (at + 2) 0 ∷ get_or b (at + 3) 0 ∷ []) ≡ number_of (take 4 (drop at b))
    unfolding number_of
    word_number h =
        let last : at + 2 + 1 ≡ at + 3 = omega arith in
        rw (two_bytes at (omega arith), two_bytes (at + 2) (omega arith), last) (omega arith)
