-- Reading a sound tree: each node has its head, its part and its places in the table, and each total is small.
use Prim.Native.Nat.{ℕ, ◌^◌, ◌≤◌, ◌<◌}
use native.Mathlib.Omega.{arith}
use native.Mathlib.Nat.{le_refl}
use mathlib.Core.Path.{◌≡◌, refl}
use mathlib.Core.Logic.{inr}
use mathlib.Core.List.{List}
use lib.ListN.{length}
use lib.Pow.{pow_mono}
use Rattle.tree.specs.Shape.{Shape, processes, height_of, last_place}
use Rattle.tree.specs.Memory.{Memory, memory_of, head_of, block}
use Rattle.tree.specs.Blocks.{block_at}
use Rattle.tree.specs.Clauses.Access.{HasPart, HasPlace}
use Rattle.tree.specs.Clauses.Invariant.{Node, count, Present, Written}
use Rattle.tree.specs.Clauses.SoundTree.{SoundTree}
use Rattle.tree.proofs.Heights.{height_most}
use Rattle.tree.proofs.LayoutSums.{product_most}
use Rattle.tree.proofs.Sizes.{words_of, part_within}
use Rattle.tree.proofs.Sound.{below_head, place_count}

module _ (s : Shape) (tall : s.height ≤ 3) where
  pub processes_most : processes s ≤ 8
  unfolding processes
  processes_most = pow_mono tall

  pub places_most : s.most ≤ 500 → (v : ℕ) → last_place s v ≤ 4000
  unfolding last_place height_of
  places_most few v = product_most s.most (2 ^ height_of s v) 500 8 few (pow_mono {j = 3} (omega (arith, height_most s.height v)))

-- tables of one length have the same places
pub same_place : {s : Shape} {t u : List ℕ} {v i : ℕ} → length t ≡ length u → HasPlace s t v i → HasPlace s u v i
same_place e p =
    record { part = record { low = p.part.low; node = p.part.node; fits = rw e at p.part.fits }; place = p.place }

module _ {s : Shape} {heads table : List ℕ} (q : SoundTree s heads table) where
  abbrev m : Memory
  m = memory_of table heads

  pub node_low : (v : ℕ) → Node s v → v < 16
  node_low v n = omega (arith, n.last, processes_most s q.tall)

  pub node_headed : (v : ℕ) → Node s v → v < length heads
  node_headed v n = omega (arith, q.sized.heads, n.last)

  pub node_part_lem : (v : ℕ) → Node s v → HasPart s table v
  node_part_lem v n =
      record { low = node_low v n; node = n.last; fits = omega (arith, part_within s v n.last, q.sized.words) }

  pub node_place : (v i : ℕ) → Node s v → i ≤ last_place s v → HasPlace s table v i
  node_place v i n h = record { part = node_part_lem v n; place = omega (arith, words_of s v n.first) }

  -- the table's blocks are the memory's
  pub node_reads : (v i : ℕ) → block_at s table v i ≡ block s m v i
  unfolding block
  node_reads v i = refl

  -- the totals of its blocks are small
  pub node_small : (v i : ℕ) → Node s v → count (block_at s table v i) ≤ 4000
  unfolding block
  node_small v i n = omega (arith, (q.sound.node v n).within i, places_most s q.tall q.few v)

  -- place 0, and a present one, is the node's, and so is each place before it
  module _ (v i : ℕ) (n : Node s v) (w : Written s m v i) where
    pub written_within : i ≤ last_place s v
    written_within = omega (arith, place_count (q.sound.node v n) i w, (q.sound.node v n).within i)

    pub written_small : i ≤ 4000
    written_small = omega (arith, written_within, places_most s q.tall q.few v)

    pub places_upto : (j : ℕ) → j ≤ i → HasPlace s table v j
    places_upto j le = node_place v j n (omega (arith, written_within))

    pub written_place : HasPlace s table v i
    written_place = places_upto i (le_refl i)

  -- a present place, and one below the head
  pub present_within : (v i : ℕ) → Node s v → Present s m v i → i ≤ last_place s v
  present_within v i n f = written_within v i n (inr f)

  pub below_within : (v i : ℕ) → Node s v → i < head_of m v → i ≤ last_place s v
  below_within v i n h = written_within v i n (below_head (q.sound.node v n) i h)
