-- Requests c and d: each of C3L, C3R and C3N takes of the table words of one block only, its own: puts and takes, and
-- C3N in the root also the size.
use Rattle.std.specs.Prelude.{ℕ, ◌+◌, ◌*◌, ◌-◌, List, [], ◌∷◌, ◌++◌, map, get_or, eqb, if◌then◌else◌}
use Rattle.tree.specs.Shape.{Shape, root, left_of, right_of}
use Rattle.tree.specs.Layout.{block_words, part_start}
use Rattle.tree.specs.Blocks.{puts_word, takes_word, size_word}
use Rattle.tree.specs.Memory.{Memory}
use Rattle.steps.specs.declared.Visit.{Visit}
use Rattle.steps.specs.declared.Step.{Step}
use Rattle.steps.specs.declared.Step.TheVariants.{C3L, C3R, C3N}

-- where word j of block i of node v stands
unfoldable pub position : Shape → ℕ → ℕ → ℕ → ℕ
position s v i j = part_start s v + (block_words * i + j)

-- where its puts and its takes stand
unfoldable pub totals_positions : Shape → ℕ → ℕ → List ℕ
totals_positions s v i = position s v i puts_word ∷ position s v i takes_word ∷ []

-- where its size stands, if it is the root's
unfoldable pub size_positions : Shape → ℕ → ℕ → List ℕ
size_positions s v i = if eqb v root then position s v i size_word ∷ [] else []

-- the positions of the words that a step takes: C3L of the left child's block at the left end, C3R of the right child's
-- at the right end, C3N of the node's own block h − 1
pub data OwnWords (s : Shape) : Step → List ℕ → Type 0 where
  of_left : (w : Visit) (l r : ℕ) → OwnWords s (C3L w l r) (totals_positions s (left_of w.node) l)
  of_right : (w : Visit) (l r puts takes : ℕ) → OwnWords s (C3R w l r puts takes) (totals_positions s (right_of w.node) r)
  of_node : (w : Visit) (l r puts takes : ℕ)
      → OwnWords s (C3N w l r puts takes) (totals_positions s w.node (w.head - 1) ++ size_positions s w.node (w.head - 1))

-- the words of a table at these positions
unfoldable pub words_at : Memory → List ℕ → List ℕ
words_at m is = map (λ i. get_or m.table i 0) is
