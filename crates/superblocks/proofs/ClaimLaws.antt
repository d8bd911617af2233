-- What the claim about superblocks says, node by node: where a block of a node below the root is a subblock of a
-- present block q of the node's parent, its super is set, and q is its super or its super + 1.
use Prim.Native.Nat.{ℕ, ◌+◌, ◌-◌, ◌≤◌, ◌<◌}
use native.Mathlib.Omega.{arith}
use native.Mathlib.Decide.{ℕ_discrete, dec_lt}
use mathlib.Core.Path.{◌≡◌, sym, ◌∙◌, subst}
use mathlib.Core.Logic.{◌⊎◌, inl, inr}
use mathlib.Core.Bool.{true, false, and-false, false≢true}
use mathlib.Core.List.{List}
use lib.Dec.{leb}
use borrow.Author.Tests.{ne_eqb}
use Rattle.base.proofs.Members.{member_between}
use Rattle.tree.specs.Shape.{Shape, root, parent_of}
use Rattle.tree.specs.Blocks.{block_at, absent}
use Rattle.tree.specs.Sides.{end_of, subblocks}
use Rattle.tree.specs.Clauses.Invariant.{Node}
use Rattle.tree.proofs.Nodes.{side_of, child_of_parent, parent_inner}
use Rattle.superblocks.specs.Supers.{near_super, SupersNear}

-- ---- the test of a place
near_set : (q z : ℕ) → near_super q z ≡ true → 1 ≤ z
unfolding near_super
near_set q z e = on (dec_lt z 1)
  where
    on : Dec (z < 1) → 1 ≤ z
    on (yes l) = let f : z ≡ 0 = omega arith in absurd (false≢true (rw f at e))
    on (no l) = omega arith

near_place : (q z : ℕ) → near_super q z ≡ true → (q ≡ z) ⊎ (q ≡ z + 1)
unfolding near_super
near_place q z e = on (ℕ_discrete q z) (ℕ_discrete q (z + 1))
  where
    on : Dec (q ≡ z) → Dec (q ≡ z + 1) → (q ≡ z) ⊎ (q ≡ z + 1)
    on (yes f) d = inl f
    on (no f) (yes g) = inr g
    on (no f) (no g) = absurd (false≢true (sym (and-false (leb 1 z)) ∙ (rw (ne_eqb q z f, ne_eqb q (z + 1) g) at e)))

-- ---- the claim
pub superblock_of : (s : Shape) (t : List ℕ) → SupersNear s t → (v q i : ℕ) → Node s v → root < v → absent (block_at s t (parent_of v) q) ≡ false
    → end_of (side_of v) (block_at s t (parent_of v) (q - 1)) < i → i ≤ end_of (side_of v) (block_at s t (parent_of v) q)
    → (1 ≤ (block_at s t v i).superblock) × ((q ≡ (block_at s t v i).superblock) ⊎ (q ≡ (block_at s t v i).superblock + 1))
unfolding root subblocks
superblock_of s t claim v q i nv below here after up =
    let inner = parent_inner s v nv (λ e. omega arith) in
    let near : near_super q (block_at s t v i).superblock ≡ true =
    subst (λ (c : ℕ). near_super q (block_at s t c i).superblock ≡ true) (child_of_parent v)
    (member_between _ _ _ (claim.near (side_of v) (parent_of v) q inner.first inner.last here) i after up)
    in
    (near_set q _ near, near_place q _ near)
