-- Nodes of the tree, inner nodes, and the nodes on the two sides of an inner one.
use Prim.Native.Nat.{ℕ, ◌%◌, ◌≤◌, ◌<◌}
use native.Mathlib.Omega.{arith}
use mathlib.Core.Path.{◌≡◌, refl}
use mathlib.Core.Bool.{Bool, true, false}
use lib.Dec.{eqb}
use lib.Pow.{pow_pos}
use borrow.Author.Tests.{eqb-true, eqb-false}
use Rattle.tree.specs.Shape.{Shape, processes, left_of, right_of, parent_of, leaf_of}
use Rattle.tree.specs.Sides.{Side, onLeft, onRight, child_of}
use Rattle.tree.specs.Clauses.Invariant.{Node, Inner}

-- the side on which a node is its parent's child
abbrev side_by : Bool → Side
side_by true = onLeft
side_by false = onRight

abbrev pub side_of : ℕ → Side
side_of v = side_by (eqb (v % 2) 0)

child_by : (b : Bool) (v : ℕ) → eqb (v % 2) 0 ≡ b → child_of (side_by b) (parent_of v) ≡ v
unfolding left_of right_of parent_of
child_by true v e = omega (arith, eqb-true (v % 2) 0 e)
child_by false v e = let f = eqb-false (v % 2) 0 e in omega arith

pub child_of_parent : (v : ℕ) → child_of (side_of v) (parent_of v) ≡ v
child_of_parent v = child_by (eqb (v % 2) 0) v refl

pub children_differ : (v : ℕ) → left_of v ≡ right_of v → ⊥
unfolding left_of right_of
children_differ v e = omega arith

pub parent_of_child : (d : Side) (v : ℕ) → parent_of (child_of d v) ≡ v
unfolding left_of right_of parent_of
parent_of_child onLeft v = omega arith
parent_of_child onRight v = omega arith

module _ (s : Shape) where
  pub root_node : Node s 1
  unfolding processes
  root_node = omega (arith, pow_pos s.height)

  pub parent_inner : (v : ℕ) → Node s v → (v ≡ 1 → ⊥) → Inner s (parent_of v)
  unfolding parent_of
  parent_inner v n ne = omega arith

  pub child_node : (d : Side) (v : ℕ) → Inner s v → Node s (child_of d v)
  unfolding left_of right_of
  child_node onLeft v n = omega arith
  child_node onRight v n = omega arith

  -- a child is below the root
  pub child_below : (d : Side) (v : ℕ) → Inner s v → 1 < child_of d v
  unfolding left_of right_of
  child_below onLeft v n = omega arith
  child_below onRight v n = omega arith

  pub inner_node : (v : ℕ) → Inner s v → Node s v
  inner_node v n = omega arith

  pub leaf_node : (k : ℕ) → k < processes s → Node s (leaf_of s k)
  unfolding leaf_of
  leaf_node k h = omega arith

  pub leaf_low : (k : ℕ) → processes s ≤ leaf_of s k
  unfolding leaf_of
  leaf_low k = omega arith

  pub leaf_not_inner : (k : ℕ) → Inner s (leaf_of s k) → ⊥
  leaf_not_inner k n = omega (arith, leaf_low k, n.last)

  pub leaf_eq : (j k : ℕ) → leaf_of s j ≡ leaf_of s k → j ≡ k
  unfolding leaf_of
  leaf_eq j k e = omega arith
