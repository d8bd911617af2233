-- The block that C3N makes: with other totals it may follow the block before; with equal totals its ends are that
-- block's.
use Prim.Native.Nat.{ℕ, ◌+◌, ◌-◌, ◌≤◌, ◌<◌}
use native.Mathlib.Omega.{arith}
use native.Mathlib.Decide.{ℕ_discrete}
use mathlib.Core.Path.{◌≡◌, refl, sym, ◌∙◌}
use mathlib.Core.Bool.{true, false, true≢false}
use lib.Dec.{eqb}
use borrow.Author.Tests.{eqb-true, eq-eqb}
use Rattle.base.proofs.Cases.{and-true}
use Rattle.tree.specs.declared.Block.{Block}
use Rattle.tree.specs.declared.Kind.{Kind}
use Rattle.tree.specs.declared.Kind.TheVariants.{Puts, Takes}
use Rattle.tree.specs.Shape.{Shape, root}
use Rattle.tree.specs.Memory.{Memory, head_of, block}
use Rattle.tree.specs.Order.{total}
use Rattle.tree.specs.Sides.{Side, onLeft, onRight, child_of, end_of}
use Rattle.tree.specs.Clauses.Invariant.{Inner, count, Written, Sound, Follows, Joins}
use Rattle.tree.proofs.Nodes.{child_node, inner_node}
use Rattle.tree.proofs.Sound.{below_head, totals_rise, counts_rise, sums_at}
use Rattle.steps.specs.declared.Visit.{Visit}
use Rattle.steps.specs.declared.Built.{Built}
use Rattle.steps.specs.Rules.{same_totals, built, block_of}
use Rattle.steps.proofs.Stages.{counted_both}
use Rattle.steps.proofs.Progress.{EndOk, Tallied}

other_totals : (puts takes : ℕ) (b : Block) → same_totals puts takes b ≡ false → puts ≡ b.puts → takes ≡ b.takes → ⊥
unfolding same_totals
other_totals puts takes b e p q = true≢false (sym (rw (eq-eqb puts b.puts p, eq-eqb takes b.takes q)) ∙ e)

-- a sum rises if its parts do not fall and are not both equal
strict : {w x y z : ℕ} → w ≤ x → y ≤ z → (x ≡ w → z ≡ y → ⊥) → w + y < x + z
strict {w} {x} {y} {z} p q ne = on (ℕ_discrete x w) (ℕ_discrete z y)
  where
    on : Dec (x ≡ w) → Dec (z ≡ y) → w + y < x + z
    on (yes e) (yes f) = absurd (ne e f)
    on (yes e) (no f) = omega arith
    on (no e) f = omega arith

module _ (s : Shape) (m : Memory) (sound : Sound s m) (w : Visit) (iv : Inner s w.node) (first : 1 ≤ w.head) (last : w.head ≤ head_of m w.node) (l r : ℕ)
    (lo : EndOk s m w onLeft l) (ro : EndOk s m w onRight r) (puts takes : ℕ) (told : Tallied s m w l r (counted_both puts takes)) (number : ℕ)
  where
    abbrev old : Block
    old = block s m w.node (w.head - 1)

    abbrev new : Built
    new = built w.node old l r puts takes

    before : Written s m w.node (w.head - 1)
    before = below_head (sound.node w.node (inner_node s w.node iv)) (w.head - 1) (omega arith)

    -- totals, and counts, at an end do not fall from the end before it
    total_side : (d : Side) (e : ℕ) → EndOk s m w d e → (κ : Kind) → total κ (block s m (child_of d w.node) (end_of d old)) ≤ total κ (block s m (child_of d w.node) e)
    total_side d e ok κ =
        let n = sound.node (child_of d w.node) (child_node s d w.node iv) in totals_rise n κ (end_of d old) e ok.rises (below_head n e ok.below)

    count_side : (d : Side) (e : ℕ) → EndOk s m w d e
        → count (block s m (child_of d w.node) (end_of d old)) + (e - end_of d old) ≤ count (block s m (child_of d w.node) e)
    count_side d e ok =
        let n = sound.node (child_of d w.node) (child_node s d w.node iv) in counts_rise n (end_of d old) e ok.rises (below_head n e ok.below)

    -- the totals are the sums at the ends, in the new block and in the old
    pub new_sums : (κ : Kind) → total κ (block_of number new) ≡ total κ (block s m (child_of onLeft w.node) l) + total κ (block s m (child_of onRight w.node) r)
    unfolding built block_of total
    new_sums Puts = told.0
    new_sums Takes = told.1

    old_sums : (κ : Kind) → total κ old ≡ total κ (block s m (child_of onLeft w.node) old.left) + total κ (block s m (child_of onRight w.node) old.right)
    old_sums κ = sums_at sound w.node iv (w.head - 1) before κ

    pub totals_grow : (κ : Kind) → total κ old ≤ total κ (block_of number new)
    totals_grow κ = omega (arith, new_sums κ, old_sums κ, total_side onLeft l lo κ, total_side onRight r ro κ)

    count_grows : same_totals puts takes old ≡ false → total Puts old ≤ total Puts (block_of number new) → total Takes old ≤ total Takes (block_of number new) → count old < count (block_of number new)
    unfolding built block_of total
    count_grows e p q = strict p q (other_totals puts takes old e)

    pub built_follows : same_totals puts takes old ≡ false → Follows old (block_of number new)
    built_follows e = record { rises = totals_grow; more = count_grows e (totals_grow Puts) (totals_grow Takes) }

    ends_rise : (d : Side) → end_of d old ≤ end_of d (block_of number new)
    unfolding built block_of
    ends_rise onLeft = lo.rises
    ends_rise onRight = ro.rises

    ends_below : (d : Side) → end_of d (block_of number new) < head_of m (child_of d w.node)
    unfolding built block_of
    ends_below onLeft = lo.below
    ends_below onRight = ro.below

    pub built_joins : Joins s m w.node old (block_of number new)
    unfolding built block_of root
    built_joins = record { rises = ends_rise; below = ends_below; sums = new_sums; sized = refl }

    -- equal totals: both ends are those of the block before
    equal_ends : ((κ : Kind) → total κ (block_of number new) ≡ total κ old) → (old.left ≡ l) × (old.right ≡ r)
    unfolding total
    equal_ends e =
        let a : (block_of number new).puts ≡ old.puts = e Puts in
        let b : (block_of number new).takes ≡ old.takes = e Takes in
        let c = new_sums Puts in
        let d = new_sums Takes in
        let f = old_sums Puts in
        let g = old_sums Takes in
        let x = count_side onLeft l lo in
        let y = count_side onRight r ro in
        let p = lo.rises in
        let q = ro.rises in
        (omega arith, omega arith)

    same_totals_lem : same_totals puts takes old ≡ true → (κ : Kind) → total κ (block_of number new) ≡ total κ old
    unfolding same_totals built block_of total
    same_totals_lem e Puts = eqb-true puts old.puts (and-true (eqb puts old.puts) (eqb takes old.takes) e).0
    same_totals_lem e Takes = eqb-true takes old.takes (and-true (eqb puts old.puts) (eqb takes old.takes) e).1

    pub same_ends : same_totals puts takes old ≡ true → (old.left ≡ l) × (old.right ≡ r)
    same_ends e = equal_ends (same_totals_lem e)
