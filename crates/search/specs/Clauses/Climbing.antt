-- What one level of the climb from a leaf to the root needs.
use Rattle.std.specs.Prelude.{ℕ, ◌+◌, ◌-◌, ◌/◌, ◌%◌, ◌≤◌, ◌<◌, ◌≡◌, List, length, get_or, eqb, if◌then◌else◌}
use Rattle.tree.specs.declared.Kind.{Kind}
use Rattle.tree.specs.Shape.{Shape}
use Rattle.tree.specs.Layout.{part_of}
use Rattle.tree.specs.Blocks.{left_word, block_at}
use Rattle.tree.specs.Order.{total}
use Rattle.tree.specs.Clauses.Access.{HasPart, HasPlace}
use Rattle.search.specs.Clauses.Searched.{Reaches, First}

-- the ends of v's parent towards v reach `place` below the parent's head
pub record Ascends (s : Shape) (heads table : List ℕ) (v place : ℕ) : Type 0 where
  pub here : HasPlace s table v place
  pub above : HasPart s table (v / 2)
  pub headed : v / 2 < length heads
  pub head : 1 ≤ get_or heads (v / 2) 1
  pub ends : Reaches (part_of s table (v / 2)) (left_word + v % 2) (get_or heads (v / 2) 1 - 1) place

-- block r of v's parent, below the head there, is the first whose end towards v reaches `place`
abbrev pub FirstAbove : Shape → List ℕ → List ℕ → ℕ → ℕ → ℕ → Type 0
FirstAbove s heads table v place r = First (part_of s table (v / 2)) (left_word + v % 2) (get_or heads (v / 2) 1 - 1) place r

-- v's sibling has the last place whose operations come before v's in block b of the parent: its end in the block before
-- b if v is on the left, and in b if v is on the right
pub record Beside (s : Shape) (table : List ℕ) (v b : ℕ) : Type 0 where
  pub some : 1 ≤ b
  pub before : HasPlace s table (v / 2) (b - 1)
  pub here : HasPlace s table (v / 2) b
  pub right : v % 2 ≡ 0 → HasPlace s table (v + 1) (block_at s table (v / 2) (b - 1)).right
  pub left : (v % 2 ≡ 0 → ⊥) → HasPlace s table (v - 1) (block_at s table (v / 2) b).left

-- the sibling's total there
unfoldable pub beside_of : Shape → List ℕ → Kind → ℕ → ℕ → ℕ
beside_of s table κ v b =
    if eqb (v % 2) 0
    then total κ (block_at s table (v + 1) (block_at s table (v / 2) (b - 1)).right)
    else total κ (block_at s table (v - 1) (block_at s table (v / 2) b).left)
