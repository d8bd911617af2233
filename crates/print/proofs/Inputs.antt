-- What is printed of an input, from what is read of it.
use Prim.Native.Nat.{ℕ, ◌-◌, ◌≤◌, ◌<◌, min}
use native.Mathlib.Decide.{dec_lt}
use native.Mathlib.Omega.{arith}
use mathlib.Core.Path.{◌≡◌, ap, sym, ◌∙◌}
use mathlib.Core.List.{List, [], ◌∷◌, ◌++◌, append-nil}
use lib.ListN.{length, replicate, length-take, length-drop, drop_of_length-le}
use lib.Seq.{take_all, take_at, drop_at}
use borrow.Author.Tests.{lt-ltb, le-ltb}
use Rattle.calls.specs.Run.{run}
use Rattle.print.specs.Lines.{long_line}
use Rattle.print.specs.Printed.{ReadFrom, run_text, print_run}

module _ {input records next : List ℕ} (read : ReadFrom input records next) where
  after_length : length next ≡ min 1 (length input - 65536)
  after_length = ap length read.after ∙ simp (length-take, length-drop)

  pub printed_long : (length next ≡ 0 → ⊥) → print_run input ≡ long_line
  unfolding print_run
  printed_long more =
      let long : 65536 < length input = omega (arith, after_length) in
      rw (lt-ltb 65536 (length input) long)

  pub printed_run : length next ≡ 0 → print_run input ≡ run_text (run 4 24 records (replicate 2065 0) (replicate 1536 0))
  unfolding print_run
  printed_run none =
      let short : length input ≤ 65536 = omega (arith, after_length) in
      rw (le-ltb 65536 (length input) short, read.first, take_all 65536 input short)

-- what is read makes an input of which it is read: the byte after the record buffer comes only where that is full
module _ (records : List ℕ) (most : length records ≤ 65536) where
  pub read_joined : (next : List ℕ) → length next ≤ 1 → (length records < 65536 → length next ≡ 0) → ReadFrom (records ++ next) records next
  read_joined [] one short =
      rw (append-nil records)
      (record { first = sym (take_all 65536 records most); after = rw (drop_of_length-le records most) })
  read_joined (b ∷ bs) one short = on (dec_lt (length records) 65536)
    where
      on : Dec (length records < 65536) → ReadFrom (records ++ b ∷ bs) records (b ∷ bs)
      on (yes l) = absurd (omega (arith, short l))
      on (no l) =
          let full : length records ≡ 65536 = omega arith in
          record {
            first = sym (take_at records (b ∷ bs) 65536 full);
            after = rw (drop_at records (b ∷ bs) 65536 full) (sym (take_all 1 (b ∷ bs) one));
          }
