-- The words that C3L, C3R and C3N take, at p = 4 and L = 1, worked out by hand: the root's part has words 0 to 34,
-- those of nodes 2 and 3 begin at 35 and 56, those of leaves 6 and 7 at 105 and 119.
use Rattle.std.specs.Prelude.{◌≡◌, refl, [], ◌∷◌}
use Rattle.tree.specs.Shape.{shape_for}
use Rattle.tree.specs.Memory.{memory_of}
use Rattle.tree.specs.All.{trees}
use Rattle.steps.specs.declared.Refresh.TheVariants.{First, Second}
use Rattle.steps.specs.declared.Visit.{Visit}
use Rattle.steps.specs.declared.Step.TheVariants.{C3L, C3R, C3N}
use Rattle.steps.specs.OwnWords.{OwnWords, of_left, of_right, of_node, words_at}
use Rattle.steps.specs.All.{step_rules}

-- in the root, whose head was 4, with the ends 2 and 1: of block 2 of node 2, of block 1 of node 3, and of its own
-- block 3, where the third word is its size
abbrev in_root : Visit
in_root = record { node = 1; refresh = First; head = 4 }

pub left_in_root : OwnWords (shape_for 4 1) (C3L in_root 2 1) (49 ∷ 50 ∷ [])
unfolding trees step_rules
left_in_root = of_left in_root 2 1

pub right_in_root : OwnWords (shape_for 4 1) (C3R in_root 2 1 2 0) (63 ∷ 64 ∷ [])
unfolding trees step_rules
right_in_root = of_right in_root 2 1 2 0

pub node_in_root : OwnWords (shape_for 4 1) (C3N in_root 2 1 2 1) (21 ∷ 22 ∷ 26 ∷ [])
unfolding trees step_rules
node_in_root = of_node in_root 2 1 2 1

-- in a second refresh of node 3, whose head was 2, with the ends 1 and 0: of block 1 of leaf 6, of block 0 of leaf 7,
-- and of its own block 1
abbrev below_root : Visit
below_root = record { node = 3; refresh = Second; head = 2 }

pub left_below : OwnWords (shape_for 4 1) (C3L below_root 1 0) (112 ∷ 113 ∷ [])
unfolding trees step_rules
left_below = of_left below_root 1 0

pub right_below : OwnWords (shape_for 4 1) (C3R below_root 1 0 1 0) (119 ∷ 120 ∷ [])
unfolding trees step_rules
right_below = of_right below_root 1 0 1 0

pub node_below : OwnWords (shape_for 4 1) (C3N below_root 1 0 1 0) (63 ∷ 64 ∷ [])
unfolding trees step_rules
node_below = of_node below_root 1 0 1 0

-- the words at positions 2 and 0 of a table; the heads play no part
pub words : words_at (memory_of (5 ∷ 6 ∷ 7 ∷ []) (9 ∷ [])) (2 ∷ 0 ∷ []) ≡ 7 ∷ 5 ∷ []
unfolding trees step_rules
words = refl
