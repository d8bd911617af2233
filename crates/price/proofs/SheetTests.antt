-- The tests of a sheet, band after band; and what a sheet that passes them is.
use Prim.Native.Nat.{ℕ, zero, suc, ◌+◌, ◌%◌, ◌≤◌, ◌<◌}
use native.Mathlib.Omega.{arith}
use mathlib.Core.Path.{◌≡◌, refl, ap, sym}
use mathlib.Core.Bool.{Bool, true, false, not, ◌&&◌, and-false}
use mathlib.Core.List.{List, [], ◌∷◌, map}
use lib.ListN.{length, length-map}
use lib.Dec.{ltb, leb, eqb}
use borrow.Author.Tests.{ltb-true, ltb-false, leb-true, lt-leb, le-leb}
use Rattle.std.specs.Prelude.{if◌then◌else◌, Result, Ok, Err}
use Rattle.std.specs.List.{list_all, IsAllAdjacentAnswer}
use Rattle.price.specs.declared.PriceRefusal.{PriceRefusal}
use Rattle.price.specs.declared.PriceRefusal.TheVariants.{Count, SheetTorn, Bands, PriceTooHigh}
use Rattle.base.proofs.Cases.{and-true}
use Rattle.price.specs.declared.Band.{Band}
use Rattle.price.specs.Sheet.{band_size, band, bands, band_of, rising, most_bands, bands_allowed, highest_price, prices_allowed}
use Rattle.price.specs.Price.{most_deliveries, price_refusal}

-- ---- ends

pub rising_at_lem : (bs : List Band) (i : ℕ) → rising bs ≡ true → suc i < length bs → (band_of bs i).last < (band_of bs (suc i)).last
unfolding rising
rising_at_lem [] i r h = absurd (omega arith)
rising_at_lem (b ∷ []) i r h = absurd (omega arith)
rising_at_lem (b ∷ c ∷ bs) zero r h = ltb-true b.last c.last (and-true (ltb b.last c.last) _ r).0
rising_at_lem (b ∷ c ∷ bs) (suc i) r h = rising_at_lem (c ∷ bs) i (and-true (ltb b.last c.last) _ r).1 (omega arith)

next : (k : ℕ) → suc k + 1 ≡ suc (k + 1)
next k = omega arith

-- as the code compares the bytes of each band and the next
each_rises : (bands : List (List ℕ)) (r : Bool) → IsAllAdjacentAnswer (λ b c t. t ≡ ltb (band b).last (band c).last) bands r → r ≡ rising (map band bands)
unfolding rising
each_rises [] true h = refl
each_rises (b ∷ []) true h = refl
each_rises (b ∷ c ∷ bs) true h = rw (← h 0 b (omega arith)) (each_rises (c ∷ bs) true (λ k d l. rw (next k) at (h (suc k) d (omega arith))))
each_rises [] false h = absurd (omega arith)
each_rises (b ∷ []) false h = absurd (omega arith)
each_rises (b ∷ c ∷ bs) false (zero, l, h) = rw (← h b)
each_rises (b ∷ c ∷ bs) false (suc k, l, h) =
    rw (← each_rises (c ∷ bs) false (k, omega arith, λ d. rw (next k) at (h d))) (sym (and-false _))

-- so do all bands, in whatever form the code has them
pub all_rise : (bands compared : List (List ℕ)) (r : Bool) → compared ≡ bands → IsAllAdjacentAnswer (λ b c t. t ≡ ltb (band b).last (band c).last) compared r → r ≡ rising (map band bands)
all_rise bands compared r all h = rw all at (each_rises compared r h)

-- how many there are
pub so_many : (bands : List (List ℕ)) → 1 ≤ length bands → length bands ≤ 8 → rising (map band bands) ≡ bands_allowed (map band bands)
unfolding bands_allowed most_bands
so_many bands low high = rw (length-map bands band, le-leb 1 (length bands) low, le-leb (length bands) 8 high)

pub not_so_many : (bands : List (List ℕ)) → (1 ≤ length bands → 8 < length bands) → false ≡ bands_allowed (map band bands)
unfolding bands_allowed most_bands
not_so_many [] h = refl
not_so_many (b ∷ bs) h = rw (length-map bs band, le-leb 1 (length (b ∷ bs)) (omega arith), lt-leb (length (b ∷ bs)) 8 (h (omega arith)))

-- ---- prices

-- as the code tests the bytes of each band
pub each_allowed : (bands : List (List ℕ)) → list_all (λ bytes. leb (band bytes).price 1000000) bands ≡ prices_allowed (map band bands)
unfolding prices_allowed highest_price
each_allowed [] = refl
each_allowed (b ∷ bs) = ap (λ t. leb (band b).price 1000000 && t) (each_allowed bs)

-- ---- a call that is not refused

pub record Accepted (count : ℕ) (sheet : List ℕ) : Type 0 where
  pub most : count ≤ 4000
  pub some : 1 ≤ length (bands sheet)
  pub rise : rising (bands sheet) ≡ true
  pub prices : prices_allowed (bands sheet) ≡ true

-- the four tests, by their outcomes
abbrev Tests : Bool → Bool → Bool → Bool → Result (Unit {0}) PriceRefusal
Tests a b c d = if a then Err Count else if not b then Err SheetTorn else if not c then Err Bands else if not d then Err PriceTooHigh else Ok tt

passed : (a b c d : Bool) → Tests a b c d ≡ Ok tt → (a ≡ false) × (c ≡ true) × (d ≡ true)
passed true b c d e = cc
passed false false c d e = cc
passed false true false d e = cc
passed false true true false e = cc
passed false true true true e = (refl, refl, refl)

pub accepted : (count : ℕ) (sheet : List ℕ) → price_refusal count sheet ≡ Ok tt → Accepted count sheet
unfolding price_refusal most_deliveries bands_allowed
accepted count sheet e =
    let bs = bands sheet in
    let p = passed (ltb 4000 count) (eqb (length sheet % band_size) 0) (bands_allowed bs) (prices_allowed bs) e in
    let rise = and-true (leb 1 (length bs) && leb (length bs) most_bands) (rising bs) p.1 in
    let some = and-true (leb 1 (length bs)) (leb (length bs) most_bands) rise.0 in
    record { most = ltb-false 4000 count p.0; some = leb-true 1 (length bs) some.0; rise = rise.1; prices = p.2 }
