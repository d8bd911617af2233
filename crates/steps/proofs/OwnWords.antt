-- Requests c and d: where two tables have the words in common that C3L, C3R or C3N takes of its own block, the step
-- goes on alike with the same registers, whatever their other words and the heads are.
use Rattle.std.specs.Prelude.{if◌then◌else◌}
use Prim.Native.Nat.{ℕ, ◌+◌, ◌*◌, ◌-◌}
use mathlib.Core.Path.{◌≡◌, refl, ap}
use mathlib.Core.List.{List, [], ◌++◌}
use lib.ListN.{length, get_or}
use lib.Dec.{eqb}
use borrow.Author.Tests.{eq-eqb, eqb-true}
use Rattle.base.proofs.Cases.{cases}
use Rattle.tree.specs.declared.Block.{Block}
use Rattle.tree.specs.Shape.{Shape, root, left_of, right_of}
use Rattle.tree.specs.Layout.{block_words, part_of}
use Rattle.tree.specs.Blocks.{word_in, puts_word, takes_word, size_word, block_in, block_at}
use Rattle.tree.specs.Memory.{Memory, block}
use Rattle.tree.specs.Size.{root_size}
use Rattle.steps.specs.declared.Operation.{Operation}
use Rattle.steps.specs.declared.Step.{Step}
use Rattle.steps.specs.Rules.{same_totals, built, step, go}
use Rattle.steps.specs.OwnWords.{position, totals_positions, size_positions, OwnWords, of_left, of_right, of_node, words_at}
use Rattle.tree.proofs.PartWords.{same_word}

-- ---- two blocks

-- the same puts and the same takes
pub record AlikeTotals (b c : Block) : Type 0 where
  pub puts : b.puts ≡ c.puts
  pub takes : b.takes ≡ c.takes

-- as block h − 1 of node v; in the root the same size too
pub record AlikeBefore (v : ℕ) (b c : Block) : Type 0 where
  pub totals : AlikeTotals b c
  pub size : v ≡ root → b.size ≡ c.size

-- only a root block has a size
size_alike : {v : ℕ} {b c : Block} → AlikeBefore v b c → (puts takes : ℕ)
    → (if eqb v root then root_size b puts takes else 0) ≡ (if eqb v root then root_size c puts takes else 0)
unfolding root_size
size_alike {v} {b} {c} a puts takes =
    cases (λ (z : ℕ). z ≡ (if eqb v root then root_size c puts takes else 0)) (eqb v root)
    (λ e. rw (e, a.size (eqb-true v root e), a.totals.puts, a.totals.takes))
    (λ e. rw e)

-- ---- two memories that have these words in common
module _ (s : Shape) (m n : Memory) where
  word : (v i j : ℕ) → get_or m.table (position s v i j) 0 ≡ get_or n.table (position s v i j) 0
      → word_in (part_of s m.table v) i j ≡ word_in (part_of s n.table v) i j
  unfolding position word_in
  word v i j e = same_word s m.table n.table v (block_words * i + j) e

  taken : (is : List ℕ) → words_at m is ≡ words_at n is → (k : ℕ) → get_or (words_at m is) k 0 ≡ get_or (words_at n is) k 0
  taken is same k = ap (λ (x : List ℕ). get_or x k 0) same

  -- `more` are the words besides puts and takes
  pub totals_alike : (v i : ℕ) (more : List ℕ) → words_at m (totals_positions s v i ++ more) ≡ words_at n (totals_positions s v i ++ more)
      → AlikeTotals (block s m v i) (block s n v i)
  unfolding block block_at block_in words_at totals_positions
  totals_alike v i more same =
      let had = taken (totals_positions s v i ++ more) same in record { puts = word v i puts_word (had 0); takes = word v i takes_word (had 1) }

  pub before_alike : (v i : ℕ) → words_at m (totals_positions s v i ++ size_positions s v i) ≡ words_at n (totals_positions s v i ++ size_positions s v i)
      → AlikeBefore v (block s m v i) (block s n v i)
  unfolding block block_at block_in words_at totals_positions size_positions
  before_alike v i same =
      record {
        totals = totals_alike v i (size_positions s v i) same;
        size = λ e. word v i size_word (rw (eq-eqb v root e) at (taken (totals_positions s v i ++ size_positions s v i) same 2));
      }

  -- the step goes on alike
  pub same_next : (x : Step) (is : List ℕ) → OwnWords s x is → words_at m is ≡ words_at n is → (number k : ℕ) (o : Operation) → (step s number k o m x).next ≡ (step s number k o n x).next
  unfolding step go same_totals built totals_positions
  same_next _ _ (of_left w l r) same number k o = let a = totals_alike (left_of w.node) l [] same in rw (a.puts, a.takes)
  same_next _ _ (of_right w l r puts takes) same number k o = let a = totals_alike (right_of w.node) r [] same in rw (a.puts, a.takes)
  same_next _ _ (of_node w l r puts takes) same number k o =
      let a = before_alike w.node (w.head - 1) same in rw (size_alike a puts takes, a.totals.puts, a.totals.takes)

-- C3L and C3R take two words, C3N two and in the root three
abbrev pub word_count : {s : Shape} {x : Step} {is : List ℕ} → OwnWords s x is → ℕ
word_count (of_left w l r) = 2
word_count (of_right w l r puts takes) = 2
word_count (of_node w l r puts takes) = if eqb w.node root then 3 else 2

pub taken_number : {s : Shape} {x : Step} {is : List ℕ} (o : OwnWords s x is) → length is ≡ word_count o
unfolding totals_positions size_positions
taken_number (of_left w l r) = refl
taken_number (of_right w l r puts takes) = refl
taken_number {s} (of_node w l r puts takes) =
    let is = totals_positions s w.node (w.head - 1) ++ size_positions s w.node (w.head - 1) in
    cases (λ (z : ℕ). length is ≡ z) (eqb w.node root) (λ e. rw e) (λ e. rw e)
