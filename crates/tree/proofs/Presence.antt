-- Presence of a block as a number: it has puts or takes.
use Prim.Native.Nat.{◌≤◌}
use native.Mathlib.Omega.{arith}
use native.Mathlib.Decide.{dec_le}
use mathlib.Core.Path.{◌≡◌, refl, sym, ◌∙◌}
use mathlib.Core.Bool.{Bool, true, false, true≢false}
use lib.Dec.{eqb}
use borrow.Author.Tests.{eqb-true, eq-eqb}
use Rattle.base.proofs.Cases.{and-true}
use Rattle.tree.specs.declared.Block.{Block}
use Rattle.tree.specs.Blocks.{absent}
use Rattle.tree.specs.Clauses.Invariant.{count}

pub absent_count : (b : Block) → absent b ≡ true → count b ≡ 0
unfolding absent
absent_count b h = let q = and-true (eqb b.puts 0) (eqb b.takes 0) h in omega (arith, eqb-true b.puts 0 q.0, eqb-true b.takes 0 q.1)

pub count_absent : (b : Block) → count b ≡ 0 → absent b ≡ true
unfolding absent
count_absent b e = rw (eq-eqb b.puts 0 (omega arith), eq-eqb b.takes 0 (omega arith))

pub present_count : (b : Block) → absent b ≡ false → 1 ≤ count b
present_count b h = on (dec_le 1 (count b))
  where
    on : Dec (1 ≤ count b) → 1 ≤ count b
    on (yes l) = l
    on (no l) = absurd (true≢false (sym (count_absent b (omega arith)) ∙ h))

pub count_present : (b : Block) → 1 ≤ count b → absent b ≡ false
count_present b l = on (absent b) refl
  where
    on : (x : Bool) → absent b ≡ x → x ≡ false
    on true e = absurd (omega (arith, absent_count b e))
    on false e = refl
