-- The price by bands of a sheet that is not refused, with the bands that the code reads.
use Prim.Native.Nat.{ℕ, suc, ◌+◌, ◌-◌, ◌*◌, ◌/◌, ◌≤◌, ◌<◌, min}
use native.Mathlib.Numerals.{add-one}
use native.Mathlib.Omega.{arith}
use mathlib.Core.Path.{◌≡◌, ap, sym, ◌∙◌}
use mathlib.Core.List.{List, [], ◌∷◌, ◌++◌, map, map-append}
use lib.ListN.{length, get_or, length-append, length-map, get_or-append}
use lib.Seq.{get_or-append_seam}
use Rattle.std.specs.Simd.{first_chunks}
use Rattle.std.proofs.lemmas.List.{get_or-map}
use Rattle.price.specs.declared.Band.{Band}
use Rattle.price.specs.Sheet.{band, bands, band_of}
use Rattle.price.specs.Price.{total_price}
use Rattle.price.proofs.Bands.{chunks_bands}
use Rattle.price.proofs.SheetTests.{Accepted}
use Rattle.price.proofs.Priced.{total_most, Priced, priced_before, priced_band, priced_next, priced_last}

-- the bytes of the last band, and of those before it
pub record Read (sheet : List ℕ) (others : List (List ℕ)) (last : List ℕ) : Type 0 where
  pub are : bands sheet ≡ map band others ++ (band last ∷ [])

pub read : (sheet : List ℕ) (bytes others : List (List ℕ)) (last : List ℕ) → bytes ≡ first_chunks 8 (length sheet / 8) sheet → bytes ≡ others ++ (last ∷ []) → Read sheet others last
read sheet bytes others last all split =
    record { are = sym (ap (map band) all ∙ chunks_bands sheet) ∙ ap (map band) split ∙ map-append band others (last ∷ []) }

-- a band that is not the last, with the last delivery that it prices
pub record Next (count : ℕ) (sheet : List ℕ) (i priced total : ℕ) (b : Band) (last : ℕ) : Type 0 where
  pub rest : priced ≤ last
  pub fits : total + (last - priced) * b.price < 4294967296
  pub then : Priced (bands sheet) count (i + 1) last (total + (last - priced) * b.price)

-- the last band, which prices the deliveries that are left
pub record Final (count : ℕ) (sheet : List ℕ) (priced total : ℕ) (b : Band) : Type 0 where
  pub rest : priced ≤ count
  pub fits : total + (count - priced) * b.price < 4294967296
  pub all : total + (count - priced) * b.price ≡ total_price (bands sheet) count

module _ {count : ℕ} {sheet : List ℕ} (ok : Accepted count sheet) {others : List (List ℕ)} {last : List ℕ} (r : Read sheet others last)
    {i priced total : ℕ} (z : Priced (bands sheet) count i priced total)
  where
    -- a word holds the price of all deliveries
    most : (n : ℕ) → n ≤ count → total_price (bands sheet) n < 4294967296
    most n h = omega (arith, total_most (bands sheet) n ok.prices, ok.most)

    many : length (bands sheet) ≡ suc (length others)
    many = omega (arith, ap length r.are, length-append (map band others) (band last ∷ []), length-map others band)

    pub next : (b : Band) → b ≡ band (get_or others i []) → i < length others → (end : ℕ) → end ≡ min b.last count → Next count sheet i priced total b end
    next b is more end is_end =
        let here : b ≡ band_of (bands sheet) i =
        is
        ∙ sym (rw r.are (get_or-append (map band others) (band last ∷ []) _ i (omega (arith, length-map others band)) ∙ get_or-map band others i [] _ more)) in
        let there : suc i < length (bands sheet) = omega (arith, many) in
        rw (is_end, here)
        record {
          rest = priced_before (bands sheet) count i priced total z there;
          fits = rw (← priced_band (bands sheet) count i priced total z there) (most (min (band_of (bands sheet) i).last count) (omega arith));
          then = rw (add-one i) (priced_next (bands sheet) count i priced total z there ok.rise);
        }

    pub final : (b : Band) → b ≡ band last → i ≡ length others → Final count sheet priced total b
    final b is end =
        let here : b ≡ band_of (bands sheet) i = is ∙ sym (rw (r.are, end, ← length-map others band) (get_or-append_seam (map band others) (band last) [] _)) in
        let all = sym (priced_last (bands sheet) count i priced total z (omega (arith, many))) in
        rw here record { rest = z.within; fits = rw all (most count (omega arith)); all = all }
