-- Lists stored one behind the other, and the room that is left for the next, where there is room for all.
use Prim.Native.Nat.{ℕ, ◌+◌, ◌≤◌, ◌<◌}
use native.Mathlib.Omega.{arith}
use native.Mathlib.Numerals.{add-one}
use mathlib.Core.Path.{◌≡◌, refl}
use mathlib.Core.List.{List, ◌++◌, flat_map}
use lib.ListN.{length, length-append}
use Rattle.base.specs.Between.{between}
use Rattle.base.specs.Clauses.Stored.{Stored}
use Rattle.base.proofs.Gather.{gather_last, gather_split}
use Rattle.base.proofs.Stored.{stored_then, next_room}
use Rattle.order.specs.Clauses.Listed.{Room}

-- ---- two lists, one behind the other
abbrev Needs : Type 1
Needs = List ℕ → Type 0

-- the bytes of P are those of A, then those of B
pub record Parts (P : Needs) (bytes : List ℕ) (A : Needs) (xs : List ℕ) (B : Needs) (ys : List ℕ) : Type 0 where
  pub first : (heads : List ℕ) → P heads → A heads
  pub second : (heads : List ℕ) → P heads → B heads
  pub joined : (heads : List ℕ) → P heads → bytes ≡ xs ++ ys

module _ {P : Needs} {bytes : List ℕ} {A : Needs} {xs : List ℕ} {B : Needs} {ys : List ℕ} (p : Parts P bytes A xs B ys) {at size : ℕ} (q : Room P bytes at size) where
  pub room_first : Room A xs at size
  room_first =
      record {
        heads = q.heads;
        holds = p.first q.heads q.holds;
        fits = omega (arith, rw (p.joined q.heads q.holds) at q.fits, length-append xs ys);
      }

  module _ {before : List ℕ} (whole : size ≡ length before) {middle : List ℕ} {i : ℕ} (one : Stored before at xs middle i) where
    pub room_second : Room B ys i (length middle)
    room_second =
        record {
          heads = q.heads;
          holds = p.second q.heads q.holds;
          fits = next_room one ys (rw (← whole, ← p.joined q.heads q.holds) q.fits);
        }

    pub stored_both : {after : List ℕ} {j : ℕ} → Stored middle i ys after j → Stored before at bytes after j
    stored_both two = rw (p.joined q.heads q.holds) (stored_then one two)

-- ---- lists gathered over some numbers: the turn of a loop that stores what f gives of one number more
module _ {P A : Needs} (f : ℕ → List ℕ) {from b to : ℕ} (rises : from ≤ b) (below : b < to) (step : (heads : List ℕ) → P heads → A heads) where
  -- up to one number more, and up to a number on the way
  more_parts : Parts P (flat_map f (between from (b + 1))) P (flat_map f (between from b)) A (f (b + 1))
  more_parts = record { first = λ heads g. g; second = step; joined = λ heads g. rw (add-one b) (gather_last f from b rises) }

  way_parts : Parts P (flat_map f (between from to)) P (flat_map f (between from (b + 1))) P (flat_map f (between (b + 1) to))
  way_parts =
      record { first = λ heads g. g; second = λ heads g. g; joined = λ heads g. gather_split f from (b + 1) to (omega arith) (omega arith) }

  module _ {before : List ℕ} {at : ℕ} (q : Room P (flat_map f (between from to)) at (length before)) {middle : List ℕ} {i : ℕ}
      (one : Stored before at (flat_map f (between from b)) middle i)
    where
      pub gathered_room : Room A (f (b + 1)) i (length middle)
      gathered_room = room_second more_parts (room_first way_parts q) refl one

      pub gathered_more : {after : List ℕ} {j : ℕ} → Stored middle i (f (b + 1)) after j → Stored before at (flat_map f (between from (b + 1))) after j
      gathered_more two = stored_both more_parts (room_first way_parts q) refl one two
