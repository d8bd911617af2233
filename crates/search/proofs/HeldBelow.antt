-- An operation that the root's blocks hold is held below the head of every node above its leaf.
use Prim.Native.Nat.{ℕ, zero, suc, ◌-◌, ◌≤◌, ◌<◌}
use native.Mathlib.Omega.{arith}
use native.Mathlib.Nat.{le_refl}
use native.Mathlib.Decide.{ℕ_discrete, dec_le}
use mathlib.Core.Path.{◌≡◌}
use Rattle.tree.specs.Shape.{Shape, processes, root}
use Rattle.tree.specs.Memory.{Memory, head_of}
use Rattle.tree.specs.Clauses.Invariant.{Written, Sound}
use Rattle.tree.proofs.Sound.{below_head, end_below}
use Rattle.tree.proofs.Ancestors.{ancestor, side_at, child_at, ancestor_node, ancestor_inner}
use Rattle.tree.proofs.Reach.{reach, reach_suc, reach_rises}
use Rattle.tree.proofs.Reached.{ancestor_top}
use Rattle.tree.proofs.Climb.{end_towards}

module _ (s : Shape) (m : Memory) (sound : Sound s m) (k : ℕ) (kp : k < processes s) (i : ℕ) where
  -- at the node of height j, the blocks below the head hold it
  abbrev HeldBelow : ℕ → Type 0
  HeldBelow j = i ≤ reach s m k j (head_of m (ancestor s k j) - 1)

  -- the last block below a node's head is written
  last_written : (j : ℕ) → j ≤ s.height → Written s m (ancestor s k j) (head_of m (ancestor s k j) - 1)
  last_written j h =
      let n = sound.node (ancestor s k j) (ancestor_node s k kp j h) in
      below_head n _ (omega (arith, n.head))

  -- its end towards the leaf is below the head there
  end_last : (j : ℕ) → suc j ≤ s.height → end_towards s m k j (head_of m (ancestor s k (suc j)) - 1) < head_of m (ancestor s k j)
  end_last j h = rw (child_at s k j) at (end_below sound (side_at s k j) (ancestor s k (suc j)) (ancestor_inner s k kp j h) _ (last_written (suc j) h))

  one_down : (j : ℕ) → suc j ≤ s.height → HeldBelow (suc j) → HeldBelow j
  one_down j h held =
      omega (
        arith,
        held,
        reach_suc s m k j (head_of m (ancestor s k (suc j)) - 1),
        reach_rises s m sound k kp j (omega arith) (end_towards s m k j (head_of m (ancestor s k (suc j)) - 1)) (head_of m (ancestor s k j) - 1)
            (omega (arith, end_last j h)) (last_written j (omega arith)),
      )

  all_down : (g : ℕ) → g ≤ s.height → HeldBelow g → (j : ℕ) → j ≤ g → HeldBelow j
  all_down zero h held j l = let e : j ≡ 0 = omega arith in rw e held
  all_down (suc g) h held j l = on (ℕ_discrete j (suc g)) (all_down g (omega arith) (one_down g h held) j)
    where
      on : Dec (j ≡ suc g) → (j ≤ g → HeldBelow j) → HeldBelow j
      on (yes e) down = rw e held
      on (no e) down = down (omega arith)

  held_below : i ≤ reach s m k s.height (head_of m root - 1) → (j : ℕ) → j ≤ s.height → HeldBelow j
  held_below rooted j l = all_down s.height (le_refl _) (rw (ancestor_top s k kp) rooted) j l

  -- so the end towards the leaf of the last such block reaches each place up to the one that holds it
  pub end_reaches : i ≤ reach s m k s.height (head_of m root - 1) → (j : ℕ) → suc j ≤ s.height → (q : ℕ) → 1 ≤ q → q < head_of m (ancestor s k j)
      → reach s m k j (q - 1) < i → q ≤ end_towards s m k j (head_of m (ancestor s k (suc j)) - 1)
  end_reaches rooted j h q f b past = on (dec_le q (end_towards s m k j (head_of m (ancestor s k (suc j)) - 1)))
    where
      on : Dec (q ≤ end_towards s m k j (head_of m (ancestor s k (suc j)) - 1)) → q ≤ end_towards s m k j (head_of m (ancestor s k (suc j)) - 1)
      on (yes l) = l
      on (no l) =
          absurd
          (omega (
            arith,
            held_below rooted (suc j) h,
            reach_suc s m k j (head_of m (ancestor s k (suc j)) - 1),
            reach_rises s m sound k kp j (omega arith) (end_towards s m k j (head_of m (ancestor s k (suc j)) - 1)) (q - 1) (omega arith)
                (below_head (sound.node (ancestor s k j) (ancestor_node s k kp j (omega arith))) (q - 1) (omega arith)),
          ))
