-- What a step needs of the memory to be played safely.
use Rattle.std.specs.Prelude.{ℕ, ◌+◌, ◌*◌, ◌-◌, ◌/◌, ◌≤◌, ◌<◌, ◌≡◌, List, length, get_or}
use Rattle.tree.specs.Shape.{Shape, root}
use Rattle.tree.specs.Blocks.{block_at}
use Rattle.steps.specs.declared.Visit.{Visit}
use Rattle.steps.specs.declared.Step.{Step}
use Rattle.steps.specs.declared.Step.TheVariants.{A, V1, V2, V3, R1, R2, R3, R4, R5, C1, C2, C3L, C3R, C3N, C4, Q}
use Rattle.tree.specs.Clauses.Access.{HasPart, HasPlace}

-- the children of w's node have heads
pub record Children (heads : List ℕ) (w : Visit) : Type 0 where
  pub low : w.node < 65536
  pub both : 2 * w.node + 1 < length heads

-- A: the leaf has its head's place and the one before it, whose totals are small
pub record Adds (s : Shape) (heads table : List ℕ) (leaf : ℕ) : Type 0 where
  pub node : leaf < length heads
  pub head : 1 ≤ get_or heads leaf 1
  pub here : HasPlace s table leaf (get_or heads leaf 1)
  pub puts : (block_at s table leaf (get_or heads leaf 1 - 1)).puts < 65536
  pub takes : (block_at s table leaf (get_or heads leaf 1 - 1)).takes < 65536

-- C3R: the right child has the place of the end, and the sums are small
pub record Sums (s : Shape) (table : List ℕ) (w : Visit) (r puts takes : ℕ) : Type 0 where
  pub place : HasPlace s table (2 * w.node + 1) r
  pub puts_low : puts + (block_at s table (2 * w.node + 1) r).puts < 65536
  pub takes_low : takes + (block_at s table (2 * w.node + 1) r).takes < 65536

-- C3N: the node has the place before the head; the sums are not below the totals there, the puts are small, and so in
-- the root is the size
pub record Decides (s : Shape) (table : List ℕ) (w : Visit) (puts takes : ℕ) : Type 0 where
  pub head : 1 ≤ w.head
  pub place : HasPlace s table w.node (w.head - 1)
  pub puts_low : puts < 65536
  pub puts_rise : (block_at s table w.node (w.head - 1)).puts ≤ puts
  pub takes_rise : (block_at s table w.node (w.head - 1)).takes ≤ takes
  pub size_low : w.node ≡ root → (block_at s table w.node (w.head - 1)).size < 65536

module _ (s : Shape) (heads table : List ℕ) (leaf : ℕ) where
  -- a line a named step; Q is answered elsewhere
  abbrev pub Ready : Step → Type 0
  Ready A = Adds s heads table leaf
  Ready (V1 a w v h) = v / 2 < length heads
  Ready (V2 a w v h x) = (v < length heads) × HasPlace s table v h
  Ready (V3 a w v h) = (v < length heads) × (h < 65536)
  Ready (R1 x v) = v < length heads
  Ready (R2 w) = Children heads w
  Ready (R3 w c) = Children heads w × HasPart s table (2 * w.node)
  Ready (R4 w) = Children heads w
  Ready (R5 w c) = Children heads w × HasPart s table (2 * w.node + 1)
  Ready (C1 w) = Children heads w × (1 ≤ get_or heads (2 * w.node) 1)
  Ready (C2 w l) = Children heads w × (1 ≤ get_or heads (2 * w.node + 1) 1)
  Ready (C3L w l r) = Children heads w × HasPlace s table (2 * w.node) l
  Ready (C3R w l r puts takes) = Children heads w × Sums s table w r puts takes
  Ready (C3N w l r puts takes) = Children heads w × Decides s table w puts takes
  Ready (C4 w n) = (w.node < length heads) × HasPlace s table w.node w.head
  Ready Q = ⊥
