-- `layout::Layout::new` meets its contract. The loop's invariant: the starts up to v are right, and not large; the others
-- are the words needed.
use Prim.Native.Nat.{ℕ, ◌*◌, ◌≤◌, ◌<◌}
use mathlib.Core.Path.{◌≡◌}
use lib.ListN.{length, get_or}
use Rattle.tree.specs.Layout.{part_start, block_words, words_needed}
use Rattle.table.proofs.layout.Layout.new.Given as goal

abbrev pub invariant-loop-v : goal.invariant-loop-v
invariant-loop-v l =
    (length l.starts ≡ 17)
    × (get_or l.starts l.v 0 ≤ block_words * 4001 * l.v)
    × ((u : ℕ) → u ≤ l.v → get_or l.starts u 0 ≡ part_start l.tree u)
    × ((u : ℕ) → l.v < u → u < 17 → get_or l.starts u 0 ≡ words_needed l.tree)
