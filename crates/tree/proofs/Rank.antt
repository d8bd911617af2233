-- The number of an operation in a block, from its number in the subblock that holds it.
use Prim.Native.Nat.{ℕ, zero, suc, ◌+◌, ◌-◌, ◌≤◌, ◌<◌}
use native.Mathlib.Omega.{arith}
use mathlib.Core.Path.{◌≡◌, ap, ◌∙◌}
use mathlib.Core.List.{List, [], ◌∷◌, ◌++◌, flat_map}
use borrow.Author.Tests.{lt-ltb}
use Rattle.base.specs.Between.{between}
use Rattle.base.proofs.Gather.{gather_at}
use Rattle.tree.specs.declared.Kind.{Kind}
use Rattle.tree.specs.Shape.{Shape, processes, leaf_of}
use Rattle.tree.specs.Memory.{Memory, block}
use Rattle.tree.specs.Order.{OpId, total, opened}
use Rattle.tree.specs.Standing.{times, rank_in}
use Rattle.tree.proofs.Names.{same_refl, times_append, rank_left, rank_right, rank_gather}
use Rattle.tree.specs.Sides.{Side, onLeft, onRight, child_of, end_of}
use Rattle.tree.specs.Clauses.Invariant.{Present, Sound}
use Rattle.tree.proofs.Levels.{Level}
use Rattle.tree.proofs.Opening.{opened_on, opened_leaf, opened_inner}
use Rattle.tree.proofs.OpenedOnce.{opened_once}
use Rattle.tree.proofs.SideTotals.{child_total, end_total, added_before, part_length, side_length}

-- ---- in a leaf
module _ (s : Shape) (m : Memory) (κ : Kind) (k : ℕ) where
  -- a leaf's block that adds one of the kind opens to its operation
  pub leaf_one : (i : ℕ) → total κ (block s m (leaf_of s k) i) < total κ (block s m (leaf_of s k) (suc i))
      → opened s m.table κ 0 (leaf_of s k) (suc i) ≡ record { process = k; serial = suc i } ∷ []
  unfolding leaf_of
  leaf_one i l =
      let e : leaf_of s k - processes s ≡ k = omega arith in
      opened_leaf s m κ (leaf_of s k) i ∙ rw (lt-ltb (total κ (block s m (leaf_of s k) i)) (total κ (block s m (leaf_of s k) (suc i))) l, e)

  only_op : (q : ℕ) → total κ (block s m (leaf_of s k) (q - 1)) < total κ (block s m (leaf_of s k) q)
      → opened s m.table κ 0 (leaf_of s k) q ≡ record { process = k; serial = q } ∷ []
  only_op zero l = absurd (omega arith)
  only_op (suc i) l = let e : suc i - 1 ≡ i = omega arith in leaf_one i (rw e at l)

  module _ (q : ℕ) (adds : total κ (block s m (leaf_of s k) (q - 1)) < total κ (block s m (leaf_of s k) q)) where
    abbrev op : OpId
    op = record { process = k; serial = q }

    pub rank_leaf : rank_in op (opened s m.table κ 0 (leaf_of s k) q) ≡ 1
    unfolding rank_in
    rank_leaf = ap (rank_in op) (only_op q adds) ∙ rw (same_refl op)

    pub times_leaf : times op (opened s m.table κ 0 (leaf_of s k) q) ≡ 1
    unfolding times
    times_leaf = ap (times op) (only_op q adds) ∙ rw (same_refl op)

-- ---- in an inner node
module _ (s : Shape) (m : Memory) (sound : Sound s m) (κ : Kind) (h v : ℕ) (level : Level s (suc h) v) (b : ℕ) (has : Present s m v (suc b)) (x : OpId) where
  abbrev opens : Side → ℕ → List OpId
  opens d q = opened s m.table κ h (child_of d v) q

  -- what the subblocks on side d up to place c of the child open to
  abbrev opens_to : Side → ℕ → List OpId
  opens_to d c = flat_map (opens d) (between (end_of d (block s m v b)) c)

  abbrev whole : List OpId
  whole = opened s m.table κ (suc h) v (suc b)

  abbrev side : Side → List OpId
  side d = opened_on s m κ h v b d

  whole_times : times x whole ≡ times x (side onLeft) + times x (side onRight)
  whole_times = ap (times x) (opened_inner s m κ h v b) ∙ times_append x (side onLeft) (side onRight)

  side_within : (d : Side) → times x (side d) ≤ times x whole
  side_within onLeft = omega (arith, whole_times)
  side_within onRight = omega (arith, whole_times)

  module _ (d : Side) (c : ℕ) (low : end_of d (block s m v b) ≤ c) (high : c < end_of d (block s m v (suc b))) (inside : 1 ≤ times x (opens d (suc c))) where
    side_times : times x (opens_to d c) + times x (opens d (suc c)) ≤ times x (side d)
    side_times =
        let after : List OpId = flat_map (opens d) (between (suc c) (end_of d (block s m v (suc b)))) in
        omega (
          arith,
          ap (times x) (gather_at (opens d) (end_of d (block s m v b)) c (end_of d (block s m v (suc b))) low high),
          times_append x (opens_to d c) (opens d (suc c) ++ after),
          times_append x (opens d (suc c)) after,
        )

    -- the block has it once, so that it is in nothing before the subblock
    side_rank : rank_in x (side d) ≡ (child_total s m κ v d c - end_total s m κ v b d) + rank_in x (opens d (suc c))
    side_rank =
        rank_gather x (opens d) (end_of d (block s m v b)) c (end_of d (block s m v (suc b))) low high
        (omega (arith, side_times, side_within d, opened_once s m sound κ x (suc h) v level b has)) inside
        ∙ omega (arith, part_length s m sound κ h v level b has d c low (omega arith))

  -- past the left side where it is on the right
  whole_rank : (d : Side) → 1 ≤ times x (side d) → rank_in x whole ≡ added_before s m κ v b d + rank_in x (side d)
  whole_rank onLeft some = ap (rank_in x) (opened_inner s m κ h v b) ∙ rank_left x (side onLeft) (side onRight) some ∙ omega arith
  whole_rank onRight some =
      ap (rank_in x) (opened_inner s m κ h v b)
      ∙ rank_right x (side onLeft) (side onRight) (omega (arith, whole_times, opened_once s m sound κ x (suc h) v level b has)) some
      ∙ ap (λ (n : ℕ). n + rank_in x (side onRight)) (side_length s m sound κ h v level b has onLeft)

  module _ (d : Side) (q : ℕ) (past : end_of d (block s m v b) < q) (upto : q ≤ end_of d (block s m v (suc b))) (inside : 1 ≤ times x (opened s m.table κ h (child_of d v) q)) where
    -- what a subblock has, the block has
    pub times_step : 1 ≤ times x (opened s m.table κ (suc h) v (suc b))
    times_step = on q past upto inside
      where
        on : (q : ℕ) → end_of d (block s m v b) < q → q ≤ end_of d (block s m v (suc b)) → 1 ≤ times x (opens d q) → 1 ≤ times x whole
        on zero p u i = absurd (omega arith)
        on (suc c) p u i = omega (arith, side_times d c (omega arith) u i, side_within d)

    -- its number: past the left side if it is on the right, past the subblocks before its own, and then its number
    -- there
    pub rank_step : rank_in x (opened s m.table κ (suc h) v (suc b))
        ≡ added_before s m κ v b d + (child_total s m κ v d (q - 1) - end_total s m κ v b d) + rank_in x (opened s m.table κ h (child_of d v) q)
    rank_step = on q past upto inside
      where
        on : (q : ℕ) → end_of d (block s m v b) < q → q ≤ end_of d (block s m v (suc b)) → 1 ≤ times x (opens d q)
            → rank_in x whole ≡ added_before s m κ v b d + (child_total s m κ v d (q - 1) - end_total s m κ v b d) + rank_in x (opens d q)
        on zero p u i = absurd (omega arith)
        on (suc c) p u i =
            let e : suc c - 1 ≡ c = omega arith in
            rw e (omega (arith, whole_rank d (omega (arith, side_times d c (omega arith) u i)), side_rank d c (omega arith) u i))
