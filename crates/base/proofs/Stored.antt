-- Bytes stored one after the other make one run; and the room that is left for the next.
use Prim.Native.Nat.{ℕ, ◌+◌, ◌-◌, ◌≤◌}
use native.Mathlib.Omega.{arith}
use mathlib.Core.Path.{◌≡◌, refl, ap, sym, ◌∙◌}
use mathlib.Core.List.{List, [], ◌++◌}
use lib.ListN.{length, length-append}
use lib.Seq.{sets, length-sets}
use borrow.Rule.Slice.PartMut.{put_mid}
use Rattle.base.specs.Clauses.Stored.{Stored}
use Rattle.base.proofs.Stores.{runs, part_stored}

pub stored_none : (l : List ℕ) (at : ℕ) → Stored l at [] l at
stored_none l at = record { end = omega arith; bytes = refl }

-- a part overwritten with some bytes
pub stored_part : (l ys : List ℕ) (at n : ℕ) (xs : List ℕ) → at + n ≤ length l → length xs ≡ n → ys ≡ xs
    → Stored l at xs (put_mid at (at + n - at) l ys) (at + n)
stored_part l ys at n xs h e f =
    record {
      end = omega arith;
      bytes = ap (put_mid at (at + n - at) l) f ∙ part_stored l xs at (at + n) h (omega arith);
    }

module _ {before : List ℕ} {at : ℕ} {xs middle : List ℕ} {i : ℕ} (first : Stored before at xs middle i) where
  pub stored_length : length middle ≡ length before
  stored_length = ap length first.bytes ∙ length-sets before at xs

  pub stored_then : {ys after : List ℕ} {j : ℕ} → Stored middle i ys after j → Stored before at (xs ++ ys) after j
  stored_then {ys} {after} {j} second =
      record {
        end = rw length-append (omega (arith, first.end, second.end));
        bytes = second.bytes ∙ ap (λ (l : List ℕ). sets l i ys) first.bytes ∙ runs before xs ys at i (sym first.end);
      }

  pub next_room : (ys : List ℕ) → at + length (xs ++ ys) ≤ length before → i + length ys ≤ length middle
  next_room ys fits = omega (arith, length-append xs ys, first.end, stored_length)
