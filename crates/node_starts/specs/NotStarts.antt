-- Rows that Apart and Within refuse, with L = 24. For p = 2 the parts of nodes 1 to 3 have 343, 175 and 175 words, and
-- 693 are needed; for p = 8 a leaf has 175, and 5,481 are needed. A weaker clause that a mistakes/weak_nodes_*.edit
-- puts in its place would let them pass.
use Rattle.std.proofs.Common.{arith}
use Rattle.std.specs.Prelude.{List, [], ◌∷◌, ◌++◌, ℕ, ◌<◌, length, get_or}
use Rattle.tree.specs.Shape.{shape_for}
use Rattle.node_starts.specs.NodeStarts.{table_most, table_processes}
use Rattle.node_starts.specs.Rule.{Apart, Within, TableRule}
use Rattle.node_starts.specs.All.{node_start_rules}

-- the row for p = 8, with this start of its last node
abbrev last_leaf_at : ℕ → List ℕ
last_leaf_at start =
    (0 ∷ 1351 ∷ 2030 ∷ 2709 ∷ 3052 ∷ 3395 ∷ 3738 ∷ 4081 ∷ 4256 ∷ 4431 ∷ 4606 ∷ 4781 ∷ 4956 ∷ 5131 ∷ []) ++ (start ∷ [])

-- ---- the rule of a table has both, of each row
pub says_apart : (table : List (List ℕ)) → TableRule table → (i : ℕ) → i < length table_processes → Apart (shape_for (get_or table_processes i 0) table_most) (get_or table i [])
says_apart table rule i low = (rule.row i low).apart

pub says_within : (table : List (List ℕ)) → TableRule table → (i : ℕ) → i < length table_processes → Within (shape_for (get_or table_processes i 0) table_most) (get_or table i [])
says_within table rule i low = (rule.row i low).within

-- ---- parts that overlap

-- node 3 starts at the last word of node 2
pub leaves_share : Apart (shape_for 2 24) (0 ∷ 343 ∷ 517 ∷ []) → ⊥
unfolding node_start_rules
leaves_share c = omega (arith, c 2 3 517 (omega arith) (omega arith) (omega arith) (omega arith))

-- node 2 starts at the last word of the root
pub root_shares : Apart (shape_for 2 24) (0 ∷ 342 ∷ 518 ∷ []) → ⊥
unfolding node_start_rules
root_shares c = omega (arith, c 1 2 342 (omega arith) (omega arith) (omega arith) (omega arith))

-- node 3 does, and node 2 comes after both
pub root_shares_with_the_last : Apart (shape_for 2 24) (0 ∷ 518 ∷ 342 ∷ []) → ⊥
unfolding node_start_rules
root_shares_with_the_last c = omega (arith, c 1 3 342 (omega arith) (omega arith) (omega arith) (omega arith))

-- node 15 starts at the last word of node 8, for p = 8
pub first_and_last_leaf_share : Apart (shape_for 8 24) (last_leaf_at 4255) → ⊥
unfolding node_start_rules
first_and_last_leaf_share c = omega (arith, c 8 15 4255 (omega arith) (omega arith) (omega arith) (omega arith))

-- ---- parts that end past the words needed

-- the last node ends a word past them
pub last_past : Within (shape_for 2 24) (0 ∷ 343 ∷ 519 ∷ []) → ⊥
unfolding node_start_rules
last_past c = omega (arith, c 3 (omega arith))

-- the root does, which is not the last node
pub root_past : Within (shape_for 2 24) (351 ∷ 0 ∷ 175 ∷ []) → ⊥
unfolding node_start_rules
root_past c = omega (arith, c 1 (omega arith))

-- the last node does, for p = 8
pub last_of_eight_past : Within (shape_for 8 24) (last_leaf_at 5307) → ⊥
unfolding node_start_rules
last_of_eight_past c = omega (arith, c 15 (omega arith))
