-- Search of a node's blocks for a put by its number, counted from the node's first block on.
use Prim.Native.Nat.{ℕ, zero, suc, ◌-◌, ◌≤◌}
use native.Mathlib.Omega.{arith}
use native.Mathlib.Decide.{ℕ_discrete}
use mathlib.Core.Path.{◌≡◌, ap, ◌∙◌}
use mathlib.Core.List.{List}
use Rattle.tree.specs.declared.Kind.TheVariants.{Puts}
use Rattle.tree.specs.Shape.{Shape}
use Rattle.tree.specs.Memory.{Memory, block, memory_of}
use Rattle.tree.specs.Order.{total}
use Rattle.tree.specs.Clauses.Invariant.{Node, Written}
use Rattle.tree.proofs.Nodes.{inner_node, leaf_node}
use Rattle.tree.proofs.Sound.{written_low, below_head, first_zeros, zero_total, totals_rise}
use Rattle.tree.proofs.Levels.{Level, level_inner, level_leaf}
use Rattle.tree.specs.Clauses.Access.{HasPart}
use Rattle.tree.specs.Layout.{part_of}
use Rattle.tree.specs.Clauses.SoundTree.{SoundTree}
use Rattle.search.specs.Clauses.Searched.{Reaches, First}
use Rattle.search.specs.Clauses.Descending.{Finds}
use Rattle.search.proofs.Words.{part_fits, puts_word_lem}
use Rattle.tree.proofs.Places.{node_part_lem, written_place}
use Rattle.tree.specs.Blocks.{puts_word}

pub level_node : (s : Shape) (h v : ℕ) → Level s h v → Node s v
level_node s zero v l = let k = level_leaf s v l in rw k.2 (leaf_node s k.0 k.1)
level_node s (suc h) v l = inner_node s v (level_inner s h v l)

module _ (s : Shape) (heads table : List ℕ) (tree : SoundTree s heads table) (h v : ℕ) (level : Level s h v) where
  abbrev m : Memory
  m = memory_of table heads

  node : Node s v
  node = level_node s h v level

  -- what is before a written place is written
  earlier : (b last : ℕ) → b ≤ last → Written s m v last → Written s m v b
  earlier b last l w = on (ℕ_discrete b last)
    where
      on : Dec (b ≡ last) → Written s m v b
      on (yes e) = rw e w
      on (no e) = below_head (tree.sound.node v node) b (omega (arith, written_low (tree.sound.node v node) last w))

  -- a put that is in the blocks up to a written one is found there
  pub search_ready : (last n : ℕ) → Written s (memory_of table heads) v last → 1 ≤ n
      → n ≤ total Puts (block s (memory_of table heads) v last) → HasPart s table v × Reaches (part_of s table v) puts_word last n
  search_ready last n w some upto = (
    node_part_lem tree v node,
    record {
      known = omega arith;
      fits = part_fits s table v last (written_place tree v last node w);
      start = omega (arith, puts_word_lem s m v 0, ap (total Puts) (first_zeros (tree.sound.node v node)) ∙ zero_total Puts);
      rises = λ a b l u.
          rw (puts_word_lem s m v a, puts_word_lem s m v b)
          (totals_rise (tree.sound.node v node) Puts a b l (earlier b last u w));
      reached = rw (puts_word_lem s m v last) upto;
    },
  )

  -- and the place found has it
  pub search_finds : (last n b : ℕ) → First (part_of s table v) puts_word last n b → Finds s table h v b n heads
  unfolding total block
  search_finds last n b f =
      record {
        tree = tree;
        level = level;
        past = rw (puts_word_lem s m v (b - 1)) at f.past;
        upto = rw (puts_word_lem s m v b) at f.upto;
      }
