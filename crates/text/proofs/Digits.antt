-- A number in decimal: it is what std writes; and how many digits there are.
use Prim.Native.Nat.{ℕ, suc, ◌+◌, ◌^◌, ◌≤◌, ◌<◌}
use native.Mathlib.Omega.{arith}
use mathlib.Core.Path.{◌≡◌, refl, ap}
use lib.ListN.{length}
use borrow.Author.Tests.{lt-ltb, le-ltb}
use Rattle.std.specs.Fmt.{decimal as std_decimal}
use Rattle.std.proofs.lemmas.Fmt.{AppendsLastDigit, decimal_from_appends, length-decimal-le, length-decimal-le_succ}
use Rattle.text.specs.Characters.{ascii}
use Rattle.text.specs.Decimal.{digit, last_digits, decimal, number_field}

appends : AppendsLastDigit last_digits
unfolding last_digits digit
appends = record {
  one = λ k n h. rw (lt-ltb n 10 h) refl;
  more = λ k n h. rw (le-ltb n 10 h) refl;
}

pub decimal_std : (x : ℕ) → x < 2 ^ 64 → decimal x ≡ std_decimal x
unfolding decimal
decimal_std x h = decimal_from_appends last_digits appends (suc x) x h (omega (arith, length-decimal-le_succ x h))

-- ---- a number after a space
pub number_length : (x : ℕ) → length (number_field x) ≡ 1 + length (decimal x)
unfolding number_field ascii
number_length x = omega arith

number_most : (k x : ℕ) → 0 < k → x < 10 ^ k → x < 2 ^ 64 → length (number_field x) ≤ 1 + k
number_most k x some h l = omega (arith, number_length x, ap length (decimal_std x l), length-decimal-le k x some h l)

-- a byte, a word, an index
pub byte_most : (x : ℕ) → x < 256 → length (number_field x) ≤ 4
byte_most x h = number_most 3 x (omega arith) (omega arith) (omega arith)

pub word_most : (x : ℕ) → x < 2 ^ 32 → length (number_field x) ≤ 11
word_most x h = number_most 10 x (omega arith) (omega arith) (omega arith)

pub index_most : (x : ℕ) → x < 2 ^ 64 → length (number_field x) ≤ 21
index_most x h = number_most 20 x (omega arith) (omega arith) h
