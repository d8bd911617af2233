-- What the words of a node's part are: the ends and the puts of its blocks.
use Prim.Native.Nat.{ℕ, ◌+◌, ◌*◌, ◌%◌, ◌≤◌}
use native.Mathlib.Omega.{arith}
use native.Mathlib.Decide.{ℕ_discrete}
use mathlib.Core.Path.{◌≡◌, refl}
use mathlib.Core.List.{List}
use lib.ListN.{length, length-take, length-drop}
use borrow.Author.Tests.{eq-eqb, ne_eqb}
use Rattle.tree.specs.declared.Kind.TheVariants.{Puts}
use Rattle.tree.specs.Shape.{Shape}
use Rattle.tree.specs.Layout.{block_words, part_of}
use Rattle.tree.specs.Blocks.{puts_word, left_word, right_word, word_in, block_in, block_at}
use Rattle.tree.specs.Memory.{Memory, block}
use Rattle.tree.specs.Order.{total}
use Rattle.tree.specs.Sides.{Side, onLeft, onRight, end_of}
use Rattle.tree.proofs.Nodes.{side_of}
use Rattle.tree.specs.Clauses.Access.{HasPlace}

-- the word of a block that has its end on a side
abbrev pub word_of : Side → ℕ
word_of onLeft = left_word
word_of onRight = right_word

-- to show something of the side of a node, show it of both sides, each by what the node's number then is
pub side_cases : (P : Side → Type 0) (v : ℕ) → (v % 2 ≡ 0 → P onLeft) → ((v % 2 ≡ 0 → ⊥) → P onRight) → P (side_of v)
side_cases P v left right = on (ℕ_discrete (v % 2) 0)
  where
    on : Dec (v % 2 ≡ 0) → P (side_of v)
    on (yes e) = rw (eq-eqb (v % 2) 0 e) (left e)
    on (no e) = rw (ne_eqb (v % 2) 0 e) (right e)

-- node v's parent has its ends towards v in this word
pub side_word : (v : ℕ) → left_word + v % 2 ≡ word_of (side_of v)
side_word v = side_cases (λ d. left_word + v % 2 ≡ word_of d) v (λ e. omega arith) (λ e. omega arith)

pub part_fits : (s : Shape) (table : List ℕ) (v i : ℕ) → HasPlace s table v i → block_words * i + block_words ≤ length (part_of s table v)
unfolding part_of
part_fits s table v i h = simp (length-take, length-drop) (omega (arith, h.part.fits, h.place))

module _ (s : Shape) (m : Memory) (v i : ℕ) where
  pub end_word : (d : Side) → word_in (part_of s m.table v) i (word_of d) ≡ end_of d (block s m v i)
  unfolding block block_at block_in
  end_word onLeft = refl
  end_word onRight = refl

  pub puts_word_lem : word_in (part_of s m.table v) i puts_word ≡ total Puts (block s m v i)
  unfolding block block_at block_in total
  puts_word_lem = refl
