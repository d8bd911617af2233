-- A price sheet: its bands, and which are allowed.
use Rattle.std.specs.Prelude.{ℕ, ◌/◌, Bool, true, ◌&&◌, List, [], ◌∷◌, map, length, get_or, take, drop, ltb, leb}
use Rattle.encoding.specs.Bytes.{number_of, cut}
use Rattle.price.specs.declared.Band.{Band}

-- the bytes of a band's record
unfoldable pub band_size : ℕ
band_size = 8

-- the band that 8 bytes hold: two 32-bit numbers, its last delivery and its price in cents for a hundred
unfoldable pub band : List ℕ → Band
band bs = record { last = number_of (take 4 bs); price = number_of (take 4 (drop 4 bs)) }

-- the bands of a sheet
unfoldable pub bands : List ℕ → List Band
bands sheet = map band (cut band_size (length sheet / band_size) sheet)

-- band number i, from 0; past the last, zeros
abbrev pub band_of : List Band → ℕ → Band
band_of bs i = get_or bs i (record { last = 0; price = 0 })

-- ends strictly rising: each is below the next
unfoldable pub rising : List Band → Bool
rising [] = true
rising (b ∷ []) = true
rising (b ∷ c ∷ bs) = ltb b.last c.last && rising (c ∷ bs)

-- a sheet has 1 to 8 bands
unfoldable pub most_bands : ℕ
most_bands = 8

-- neither no bands nor more than 8, and ends strictly rising
unfoldable pub bands_allowed : List Band → Bool
bands_allowed bs = leb 1 (length bs) && leb (length bs) most_bands && rising bs

-- the highest price, in cents for a hundred
unfoldable pub highest_price : ℕ
highest_price = 1000000

-- no price over it
unfoldable pub prices_allowed : List Band → Bool
prices_allowed [] = true
prices_allowed (b ∷ bs) = leb b.price highest_price && prices_allowed bs
