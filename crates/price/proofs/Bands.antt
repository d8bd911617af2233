-- The bands of a sheet by their numbers.
use Prim.Native.Nat.{ℕ, zero, suc, ◌/◌, ◌<◌}
use mathlib.Core.Path.{◌≡◌, refl, ap}
use mathlib.Core.List.{List, ◌∷◌, map}
use lib.ListN.{length, take, drop}
use lib.Seq.{drop-cons}
use Rattle.std.specs.Simd.{first_chunks}
use Rattle.encoding.specs.Bytes.{cut}
use Rattle.encoding.proofs.Cuts.{read_length}
use Rattle.price.specs.declared.Band.{Band}
use Rattle.price.specs.Sheet.{band_size, band, bands, band_of}

chunks_cut : (size n : ℕ) (bytes : List ℕ) → first_chunks size n bytes ≡ cut size n bytes
unfolding cut
chunks_cut size zero bytes = refl
chunks_cut size (suc n) bytes = ap (λ rest. take size bytes ∷ rest) (chunks_cut size n (drop size bytes))

-- as the code reads them
pub chunks_bands : (sheet : List ℕ) → map band (first_chunks 8 (length sheet / 8) sheet) ≡ bands sheet
unfolding bands band_size
chunks_bands sheet = ap (map band) (chunks_cut 8 (length sheet / 8) sheet)

pub bands_length : (sheet : List ℕ) → length (bands sheet) ≡ length sheet / 8
unfolding bands band_size
bands_length sheet = read_length band 8 (length sheet / 8) sheet

-- the bands from number i on
pub from_band : (bs : List Band) (i : ℕ) → i < length bs → drop i bs ≡ band_of bs i ∷ drop (suc i) bs
from_band bs i h = drop-cons bs i (record { last = 0; price = 0 }) h
