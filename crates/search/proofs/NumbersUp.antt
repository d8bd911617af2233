-- The number of an operation in a node, counted from the node's first block on, and its number in the parent: they
-- differ by the sibling's total where its operations stop to come before.
use Prim.Native.Nat.{ℕ, suc, ◌+◌, ◌-◌, ◌≤◌, ◌<◌}
use native.Mathlib.Omega.{arith}
use mathlib.Core.Path.{◌≡◌}
use mathlib.Core.Logic.{inr}
use Rattle.tree.specs.declared.Kind.{Kind}
use Rattle.tree.specs.Shape.{Shape}
use Rattle.tree.specs.Memory.{Memory, block}
use Rattle.tree.specs.Order.{OpId, total, opened}
use Rattle.tree.specs.Standing.{times, rank_in}
use Rattle.tree.specs.Sides.{Side, onLeft, onRight, child_of, end_of}
use Rattle.tree.specs.Clauses.Invariant.{Inner, Present, Written, Sound}
use Rattle.tree.proofs.Nodes.{inner_node, child_node}
use Rattle.tree.proofs.Sound.{below_head, before_written, totals_rise, sums_at}
use Rattle.tree.proofs.Levels.{Level, level_inner}
use Rattle.tree.proofs.SideTotals.{child_total, end_total, added_before}
use Rattle.tree.proofs.Rank.{rank_step}

-- the total of the other child where its operations stop to come before those on side d in v's block suc b: all of the
-- left child's come first
abbrev pub beside_total : Shape → Memory → Kind → ℕ → ℕ → Side → ℕ
beside_total s m κ v b onLeft = end_total s m κ v b onRight
beside_total s m κ v b onRight = end_total s m κ v (suc b) onLeft

module _ (s : Shape) (m : Memory) (sound : Sound s m) (κ : Kind) (h v : ℕ) (level : Level s (suc h) v) (b : ℕ) (has : Present s m v (suc b)) where
  inner : Inner s v
  inner = level_inner s h v level

  -- a place up to the end in block suc b is written
  written_to : (d : Side) (q : ℕ) → q ≤ end_of d (block s m v (suc b)) → Written s m (child_of d v) q
  written_to d q l = below_head (sound.node (child_of d v) (child_node s d v inner)) q (omega (arith, (sound.joins v inner b has).below d))

  pub child_rises : (d : Side) (p q : ℕ) → p ≤ q → q ≤ end_of d (block s m v (suc b)) → child_total s m κ v d p ≤ child_total s m κ v d q
  child_rises d p q l u = totals_rise (sound.node (child_of d v) (child_node s d v inner)) κ p q l (written_to d q u)

  pub ends_total : (d : Side) → end_total s m κ v b d ≤ end_total s m κ v (suc b) d
  ends_total d = child_rises d (end_of d (block s m v b)) (end_of d (block s m v (suc b))) ((sound.joins v inner b has).rises d) (omega arith)

  pub sum_before : total κ (block s m v b) ≡ end_total s m κ v b onLeft + end_total s m κ v b onRight
  sum_before = sums_at sound v inner b (before_written (sound.node v (inner_node s v inner)) b has) κ

  pub sum_here : total κ (block s m v (suc b)) ≡ end_total s m κ v (suc b) onLeft + end_total s m κ v (suc b) onRight
  sum_here = sums_at sound v inner (suc b) (inr has) κ

  module _ (d : Side) (q : ℕ) (past : end_of d (block s m v b) < q) (upto : q ≤ end_of d (block s m v (suc b))) where
    own_low : end_total s m κ v b d ≤ child_total s m κ v d (q - 1)
    own_low = child_rises d (end_of d (block s m v b)) (q - 1) (omega arith) (omega (arith, upto))

    own_high : child_total s m κ v d q ≤ end_total s m κ v (suc b) d
    own_high = child_rises d q (end_of d (block s m v (suc b))) upto (omega arith)

    -- what is within block q of the child is within v's block suc b
    pub number_low : total κ (block s m v b) ≤ child_total s m κ v d (q - 1) + beside_total s m κ v b d
    number_low = on d own_low
      where
        on : (d : Side) → end_total s m κ v b d ≤ child_total s m κ v d (q - 1) → total κ (block s m v b) ≤ child_total s m κ v d (q - 1) + beside_total s m κ v b d
        on onLeft l = omega (arith, sum_before)
        on onRight l = omega (arith, sum_before, ends_total onLeft)

    pub number_high : child_total s m κ v d q + beside_total s m κ v b d ≤ total κ (block s m v (suc b))
    number_high = on d own_high
      where
        on : (d : Side) → child_total s m κ v d q ≤ end_total s m κ v (suc b) d → child_total s m κ v d q + beside_total s m κ v b d ≤ total κ (block s m v (suc b))
        on onLeft l = omega (arith, sum_here, ends_total onRight)
        on onRight l = omega (arith, sum_here)

    pub number_rank : (x : OpId) → 1 ≤ times x (opened s m.table κ h (child_of d v) q)
        → child_total s m κ v d (q - 1) + rank_in x (opened s m.table κ h (child_of d v) q) + beside_total s m κ v b d
        ≡ total κ (block s m v b) + rank_in x (opened s m.table κ (suc h) v (suc b))
    number_rank x inside = on d own_low (rank_step s m sound κ h v level b has x d q past upto inside)
      where
        on : (d : Side) → end_total s m κ v b d ≤ child_total s m κ v d (q - 1)
            → rank_in x (opened s m.table κ (suc h) v (suc b))
            ≡ added_before s m κ v b d + (child_total s m κ v d (q - 1) - end_total s m κ v b d) + rank_in x (opened s m.table κ h (child_of d v) q)
            → child_total s m κ v d (q - 1) + rank_in x (opened s m.table κ h (child_of d v) q) + beside_total s m κ v b d
            ≡ total κ (block s m v b) + rank_in x (opened s m.table κ (suc h) v (suc b))
        on onLeft l r = omega (arith, sum_before)
        on onRight l r = omega (arith, sum_before, ends_total onLeft)
