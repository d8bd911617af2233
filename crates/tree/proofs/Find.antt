-- The operation of a given number in a block, from 0: on which side, in which subblock, and its number there; and the
-- put of a given number in the root.
use Prim.Native.Nat.{ℕ, suc, ◌+◌, ◌-◌, ◌≤◌, ◌<◌}
use native.Mathlib.Omega.{arith}
use mathlib.Core.Path.{◌≡◌, ap, ◌∙◌}
use mathlib.Core.List.{List, ◌++◌, flat_map}
use lib.ListN.{length, get_or, get_or-append}
use lib.Seq.{get_or-append-add}
use Rattle.base.specs.Between.{between}
use Rattle.base.proofs.Gather.{gather_get}
use Rattle.tree.specs.declared.Kind.{Kind}
use Rattle.tree.specs.declared.Kind.TheVariants.{Puts}
use Rattle.tree.specs.Shape.{Shape, root, leaf_of}
use Rattle.tree.specs.Memory.{Memory, block}
use Rattle.tree.specs.Order.{OpId, total, opened, in_root, last_root, root_puts}
use Rattle.tree.specs.Sides.{Side, onLeft, onRight, child_of, end_of}
use Rattle.tree.specs.Clauses.Invariant.{Present, Sound}
use Rattle.tree.proofs.Levels.{Level, level_child, level_inner}
use Rattle.tree.proofs.Opening.{opened_on, opened_inner, opened_length, subblock_present}
use Rattle.tree.proofs.LastRoot.{root_present, root_length, order_length}
use Rattle.tree.proofs.SideTotals.{child_total, end_total, added_on, part_length, side_length}
use Rattle.tree.proofs.Rank.{leaf_one}

-- ---- in a leaf
pub find_leaf : (s : Shape) (m : Memory) (κ : Kind) (k i : ℕ) (z : OpId) → total κ (block s m (leaf_of s k) i) < total κ (block s m (leaf_of s k) (suc i))
    → get_or (opened s m.table κ 0 (leaf_of s k) (suc i)) 0 z ≡ record { process = k; serial = suc i }
find_leaf s m κ k i z adds = ap (λ (l : List OpId). get_or l 0 z) (leaf_one s m κ k i adds)

-- ---- in an inner node
module _ (s : Shape) (m : Memory) (sound : Sound s m) (κ : Kind) (h v : ℕ) (level : Level s (suc h) v) (b : ℕ) (has : Present s m v (suc b)) (z : OpId) where
  abbrev side : Side → List OpId
  side d = opened_on s m κ h v b d

  -- the first are on the left
  pub find_left : (j : ℕ) → j < added_on s m κ v b onLeft → get_or (opened s m.table κ (suc h) v (suc b)) j z ≡ get_or (opened_on s m κ h v b onLeft) j z
  find_left j l =
      ap (λ (xs : List OpId). get_or xs j z) (opened_inner s m κ h v b)
      ∙ get_or-append (side onLeft) (side onRight) z j (omega (arith, side_length s m sound κ h v level b has onLeft))

  -- the others on the right, past those
  pub find_right : (j : ℕ) → added_on s m κ v b onLeft ≤ j
      → get_or (opened s m.table κ (suc h) v (suc b)) j z ≡ get_or (opened_on s m κ h v b onRight) (j - added_on s m κ v b onLeft) z
  find_right j l =
      let n : length (side onLeft) ≡ added_on s m κ v b onLeft = side_length s m sound κ h v level b has onLeft in
      let e : j ≡ length (side onLeft) + (j - added_on s m κ v b onLeft) = omega arith in
      ap (λ (xs : List OpId). get_or xs j z) (opened_inner s m κ h v b)
      ∙ ap (λ (i : ℕ). get_or (side onLeft ++ side onRight) i z) e
      ∙ get_or-append-add (side onLeft) (side onRight) (j - added_on s m κ v b onLeft) z

  -- on a side, in the subblock suc c at which the child's totals pass it
  pub find_on : (d : Side) (c j : ℕ) → end_of d (block s m v b) ≤ c → c < end_of d (block s m v (suc b))
      → child_total s m κ v d c ≤ end_total s m κ v b d + j → end_total s m κ v b d + j < child_total s m κ v d (suc c)
      → get_or (opened_on s m κ h v b d) j z ≡ get_or (opened s m.table κ h (child_of d v) (suc c)) (j - (child_total s m κ v d c - end_total s m κ v b d)) z
  find_on d c j low high past upto =
      let f : ℕ → List OpId = opened s m.table κ h (child_of d v) in
      let from : ℕ = end_of d (block s m v b) in
      let before : length (flat_map f (between from c)) + end_total s m κ v b d ≡ child_total s m κ v d c = part_length s m sound κ h v level b has d c low (omega arith) in
      let here : length (f (suc c)) + child_total s m κ v d c ≡ child_total s m κ v d (suc c) =
      opened_length s m sound κ h (child_of d v) (level_child s h v level d) c (subblock_present sound v (level_inner s h v level) b has d c high)
      in
      gather_get f z from c (end_of d (block s m v (suc b))) j low high (omega arith) (omega arith)
      ∙ ap (λ (i : ℕ). get_or (f (suc c)) i z) (omega arith)

-- ---- in the root
pub find_root : (s : Shape) (m : Memory) → Sound s m → (b n : ℕ) (z : OpId) → suc b ≤ last_root s m.table
    → total Puts (block s m root b) ≤ n → n < total Puts (block s m root (suc b))
    → get_or (root_puts s m.table) n z ≡ get_or (in_root s m.table Puts (suc b)) (n - total Puts (block s m root b)) z
unfolding root_puts
find_root s m sound b n z l past upto =
    let f : ℕ → List OpId = in_root s m.table Puts in
    let before : length (flat_map f (between 0 b)) ≡ total Puts (block s m root b) = order_length s m sound Puts b (omega arith) in
    let here : length (f (suc b)) + total Puts (block s m root b) ≡ total Puts (block s m root (suc b)) = root_length s m sound Puts b (root_present s m sound b l) in
    gather_get f z 0 b (last_root s m.table) n (omega arith) l (omega arith) (omega arith) ∙ ap (λ (i : ℕ). get_or (f (suc b)) i z) (ap (λ (a : ℕ). n - a) before)
