-- The step records that bytes are cut into: how many they are, which bytes each has, and those of more bytes.
use Prim.Native.Nat.{ℕ, ◌+◌, ◌*◌, ◌/◌, ◌%◌, ◌≤◌, ◌<◌}
use native.Mathlib.Omega.{arith}
use mathlib.Core.Path.{◌≡◌, ap, ◌∙◌}
use mathlib.Core.List.{List, [], ◌++◌, map, map-append}
use lib.ListN.{length, get_or, take, drop, length-append}
use Rattle.encoding.specs.Bytes.{cut}
use Rattle.std.specs.Simd.{first_chunks}
use Rattle.encoding.proofs.Cuts.{cut_append, read_length, read_at, chunks_cut, cut_take}
use Rattle.record.specs.StepRecords.{step_size, step_record, step_records}

pub records_length : (bs : List ℕ) → length (step_records bs) ≡ length bs / 8
unfolding step_records step_size
records_length bs = read_length step_record 8 (length bs / 8) bs

pub record_at_lem : (bs : List ℕ) (i : ℕ) → i < length bs / 8 → get_or (step_records bs) i (step_record []) ≡ step_record (take 8 (drop (8 * i) bs))
unfolding step_records step_size
record_at_lem bs i h = read_at step_record 8 (length bs / 8) bs i h

pub records_append : (xs ys : List ℕ) → length xs % 8 ≡ 0 → step_records (xs ++ ys) ≡ step_records xs ++ step_records ys
unfolding step_records step_size
records_append xs ys whole =
    let many : length (xs ++ ys) / 8 ≡ length xs / 8 + length ys / 8 = simp length-append (omega arith) in
    ap (λ (n : ℕ). map step_record (cut 8 n (xs ++ ys))) many
    ∙ ap (map step_record) (cut_append 8 (length xs / 8) (length ys / 8) xs ys (omega arith))
    ∙ map-append step_record (cut 8 (length xs / 8) xs) (cut 8 (length ys / 8) ys)

-- ---- the arrays that Rust cuts bytes into, each read
pub steps_chunked : (bs : List ℕ) → map step_record (first_chunks 8 (length bs / 8) bs) ≡ step_records bs
unfolding step_records step_size
steps_chunked bs = ap (map step_record) (chunks_cut 8 (length bs / 8) bs)

-- of the first n of them
pub first_chunked : {A : Type 0} (read : List ℕ → A) (size n m : ℕ) (bs : List ℕ) → n ≤ m → map read (take n (first_chunks size m bs)) ≡ map read (cut size n bs)
first_chunked read size n m bs h = ap (λ (l : List (List ℕ)). map read (take n l)) (chunks_cut size m bs) ∙ ap (map read) (cut_take size n m bs h)
