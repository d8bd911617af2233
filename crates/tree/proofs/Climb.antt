-- Climbing from a leaf to the root: which block of each node above it holds an operation.
use Prim.Native.Nat.{ℕ, suc, ◌+◌, ◌-◌, ◌≤◌, ◌<◌}
use native.Mathlib.Omega.{arith}
use native.Mathlib.Nat.{le_refl}
use mathlib.Core.Path.{◌≡◌, sym, subst}
use mathlib.Core.Logic.{inr}
use Rattle.tree.specs.declared.Kind.TheVariants.{Puts, Takes}
use Rattle.tree.specs.Shape.{Shape, processes, root}
use Rattle.tree.specs.Memory.{Memory, head_of, block}
use Rattle.tree.specs.Order.{OpId, opened, in_root, last_root}
use Rattle.tree.specs.Standing.{times, stands_in, root_block_of}
use Rattle.tree.specs.Sides.{end_of}
use Rattle.tree.specs.Clauses.Invariant.{Present, Written, Sound}
use Rattle.tree.proofs.Sound.{below_head, end_below}
use Rattle.tree.proofs.Ancestors.{ancestor, side_at, child_at, ancestor_node, ancestor_inner}
use Rattle.tree.proofs.Reach.{reach, reach_zero, reach_suc, reach_rises}
use Rattle.tree.proofs.OpenedBetween.{times_opened, opened_inside}
use Rattle.tree.proofs.LastRoot.{root_present}
use Rattle.tree.proofs.Reached.{reached, ancestor_top}
use Rattle.tree.proofs.RootBlock.{root_block_only}

-- the end towards the leaf of process k, in block i of the node of height suc j above it
abbrev pub end_towards : Shape → Memory → ℕ → ℕ → ℕ → ℕ
end_towards s m k j i = end_of (side_at s k j) (block s m (ancestor s k (suc j)) i)

module _ (s : Shape) (m : Memory) (sound : Sound s m) (k : ℕ) (kp : k < processes s) where
  -- in the leaf, block i holds operation i
  pub climb_leaf : (i : ℕ) → 1 ≤ i → (reach s m k 0 (i - 1) < i) × (i ≤ reach s m k 0 i)
  climb_leaf i h = (omega (arith, reach_zero s m k (i - 1)), omega (arith, reach_zero s m k i))

  module _ (j : ℕ) (low : suc j ≤ s.height) (b q : ℕ) (has : Present s m (ancestor s k (suc j)) (suc b))
      (past : end_towards s m k j b < q)
      (upto : q ≤ end_towards s m k j (suc b))
    where
      -- the blocks up to the end are below the head, so they are written
      written_to_end : (i : ℕ) → i ≤ end_towards s m k j (suc b) → Written s m (ancestor s k j) i
      written_to_end i l =
          let e : end_towards s m k j (suc b) < head_of m (ancestor s k j) =
          rw (child_at s k j) at (end_below sound (side_at s k j) (ancestor s k (suc j)) (ancestor_inner s k kp j low) (suc b) (inr has))
          in
          below_head (sound.node (ancestor s k j) (ancestor_node s k kp j (omega arith))) i (omega arith)

      -- if block q of the ancestor of height j holds operation i, and q is after the end in block b and up to the end
      -- in block suc b one higher, then block suc b there holds i
      pub climb_step : (i : ℕ) → reach s m k j (q - 1) < i → i ≤ reach s m k j q → (reach s m k (suc j) b < i) × (i ≤ reach s m k (suc j) (suc b))
      climb_step i after till =
          let rises = reach_rises s m sound k kp j (omega arith) in (
            omega (arith, reach_suc s m k j b, rises (end_towards s m k j b) (q - 1) (omega arith) (written_to_end (q - 1) (omega (arith, past, upto)))),
            omega (arith, reach_suc s m k j (suc b), rises q (end_towards s m k j (suc b)) upto (written_to_end (end_towards s m k j (suc b)) (le_refl _))),
          )

  -- the root block that holds an operation is its root block
  pub climb_root : (b i : ℕ) → suc b ≤ last_root s m.table → reached s m k b < i → i ≤ reached s m k (suc b)
      → root_block_of s m.table (record { process = k; serial = i }) ≡ suc b
  unfolding stands_in in_root
  climb_root b i l past upto =
      let x : OpId = record { process = k; serial = i } in
      let top : ancestor s k s.height ≡ root = ancestor_top s k kp in
      let once : times_opened s m k s.height (suc b) i ≡ 1 =
      opened_inside s m sound k kp s.height (le_refl _) b (subst (λ (v : ℕ). Present s m v (suc b)) (sym top) (root_present s m sound b l)) i past upto
      in
      let stands : stands_in s m.table x (suc b) ≡ 1 =
      subst (λ (v : ℕ). times x (opened s m.table Puts s.height v (suc b)) + times x (opened s m.table Takes s.height v (suc b)) ≡ 1) top once
      in
      root_block_only s m sound x (suc b) l (omega arith)
