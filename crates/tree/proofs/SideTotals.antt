-- How many operations of a kind a block has on each side: a difference of its child's totals.
use Prim.Native.Nat.{ℕ, suc, ◌+◌, ◌-◌, ◌≤◌}
use native.Mathlib.Omega.{arith}
use native.Mathlib.Nat.{le_refl}
use mathlib.Core.Path.{◌≡◌, refl}
use mathlib.Core.List.{flat_map}
use lib.ListN.{length, length-append}
use Rattle.base.specs.Between.{between}
use Rattle.base.proofs.Gather.{gather_measure}
use Rattle.tree.specs.declared.Kind.{Kind}
use Rattle.tree.specs.Shape.{Shape}
use Rattle.tree.specs.Memory.{Memory, block}
use Rattle.tree.specs.Order.{total, opened}
use Rattle.tree.specs.Sides.{Side, onLeft, onRight, child_of, end_of}
use Rattle.tree.specs.Clauses.Invariant.{Inner, Present, Sound}
use Rattle.tree.proofs.Levels.{Level, level_child, level_inner}
use Rattle.tree.proofs.Opening.{opened_on, subblocks_rise, subblock_present, opened_length}

-- the total at place c of v's child on side d
abbrev pub child_total : Shape → Memory → Kind → ℕ → Side → ℕ → ℕ
child_total s m κ v d c = total κ (block s m (child_of d v) c)

-- the same at the end in v's block b
abbrev pub end_total : Shape → Memory → Kind → ℕ → ℕ → Side → ℕ
end_total s m κ v b d = child_total s m κ v d (end_of d (block s m v b))

-- how many operations the subblocks on side d of v's block suc b have, and how many come before those
abbrev pub added_on : Shape → Memory → Kind → ℕ → ℕ → Side → ℕ
added_on s m κ v b d = end_total s m κ v (suc b) d - end_total s m κ v b d

abbrev pub added_before : Shape → Memory → Kind → ℕ → ℕ → Side → ℕ
added_before s m κ v b onLeft = 0
added_before s m κ v b onRight = added_on s m κ v b onLeft

module _ (s : Shape) (m : Memory) (sound : Sound s m) (κ : Kind) (h v : ℕ) (level : Level s (suc h) v) (b : ℕ) (has : Present s m v (suc b)) where
  inner : Inner s v
  inner = level_inner s h v level

  -- the first subblocks on a side, up to place c of the child
  pub part_length : (d : Side) (c : ℕ) → end_of d (block s m v b) ≤ c → c ≤ end_of d (block s m v (suc b))
      → length (flat_map (opened s m.table κ h (child_of d v)) (between (end_of d (block s m v b)) c)) + end_total s m κ v b d ≡ child_total s m κ v d c
  part_length d c low high =
      gather_measure length refl length-append (opened s m.table κ h (child_of d v)) (child_total s m κ v d) _ c low
      (λ a p q. opened_length s m sound κ h (child_of d v) (level_child s h v level d) a (subblock_present sound v inner b has d a (omega arith)))

  pub side_length : (d : Side) → length (opened_on s m κ h v b d) ≡ added_on s m κ v b d
  side_length d = omega (arith, part_length d (end_of d (block s m v (suc b))) (subblocks_rise sound v inner b has d) (le_refl _))
