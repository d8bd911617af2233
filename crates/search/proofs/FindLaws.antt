-- Finding a put, at heights and places as the code has them: in an inner node, in a leaf, and in the root.
use Prim.Native.Nat.{ℕ, zero, suc, ◌-◌, ◌≤◌, ◌<◌}
use native.Mathlib.Omega.{arith}
use mathlib.Core.Path.{◌≡◌, refl, sym, subst}
use mathlib.Core.Logic.{inr}
use mathlib.Core.List.{List}
use Rattle.tree.specs.declared.Kind.TheVariants.{Puts}
use Rattle.tree.specs.Shape.{Shape, processes, root, leaf_of}
use Rattle.tree.specs.Blocks.{block_at, puts_word}
use Rattle.tree.specs.Memory.{Memory, block, memory_of}
use Rattle.tree.specs.Order.{total, in_root}
use Rattle.tree.specs.Clauses.Invariant.{Node, Present}
use Rattle.tree.proofs.Nodes.{leaf_node}
use Rattle.tree.proofs.Levels.{level_root, level_leaf}
use Rattle.tree.proofs.Opening.{at_most_one}
use Rattle.tree.proofs.LastRoot.{root_written}
use Rattle.tree.proofs.Find.{find_leaf, find_root}
use Rattle.tree.specs.Clauses.Access.{HasPart, HasPlace}
use Rattle.tree.specs.Layout.{part_of}
use Rattle.search.specs.declared.find.Descent.{Descent}
use Rattle.search.specs.Clauses.Searched.{Reaches, First}
use Rattle.search.specs.Clauses.Numbered.{Numbered, ValueAt}
use Rattle.search.specs.Clauses.Descending.{Finds, FoundIn, Descends, descent_of}
use Rattle.tree.proofs.Places.{written_place}
use Rattle.search.proofs.PutSearch.{level_node, search_ready, search_finds}
use Rattle.search.proofs.Descents.{descends, lower, lower_ready, lower_finds, lower_found}

-- ---- in an inner node

-- the put is found by a search of the child
pub record Down (s : Shape) (heads table : List ℕ) (h v b n : ℕ) (r : Descent) : Type 0 where
  pub ready : HasPart s table r.node × Reaches (part_of s table r.node) puts_word r.last r.number
  pub finds : (c : ℕ) → First (part_of s table r.node) puts_word r.last r.number c → Finds s table (h - 1) r.node c r.number heads
  pub found : (c : ℕ) → First (part_of s table r.node) puts_word r.last r.number c → (x : ℕ) → FoundIn s table (h - 1) r.node c r.number x
      → FoundIn s table h v b n x

down : (s : Shape) (heads table : List ℕ) (h v b n : ℕ) → Finds s table h v b n heads → (h ≡ 0 → ⊥)
    → Descends s table v b n × Down s heads table h v b n (descent_of s table v b n)
down s heads table zero v b n f ne = absurd (ne refl)
down s heads table (suc h) v zero n f ne = absurd (omega (arith, f.past, f.upto))
down s heads table (suc h) v (suc a) n f ne =
    let e : suc h - 1 ≡ h = omega arith in
    let l = lower s heads table h v a n f in (
      descends s heads table h v a n f,
      record {
        ready = lower_ready s heads table h v a n f _ _ _ l;
        finds = rw e (lower_finds s heads table h v a n f _ _ _ l);
        found = rw e (lower_found s heads table h v a n f _ _ _ l);
      },
    )

module _ {s : Shape} {heads table : List ℕ} {h v b n : ℕ} (f : Finds s table h v b n heads) (ne : h ≡ 0 → ⊥) where
  pub down_ready : Descends s table v b n
  down_ready = (down s heads table h v b n f ne).0

  pub down_to : (r : Descent) → r ≡ descent_of s table v b n → Down s heads table h v b n r
  down_to r e = subst (Down s heads table h v b n) (sym e) (down s heads table h v b n f ne).1

-- ---- in a leaf
module _ {s : Shape} {heads table : List ℕ} {h v b n : ℕ} (f : Finds s table h v b n heads) where
  node : Node s v
  node = level_node s h v f.level

  present : Present s (memory_of table heads) v b
  unfolding block
  present = omega (arith, f.past, f.upto)

  -- whatever the node, the block is there
  pub find_place : HasPlace s table v b
  find_place = written_place f.tree v b node (inr present)

-- a leaf's block that adds a put has its value
leaf_value : (s : Shape) (heads table : List ℕ) (k a n : ℕ) → k < processes s → Finds s table 0 (leaf_of s k) (suc a) n heads
    → FoundIn s table 0 (leaf_of s k) (suc a) n (block_at s table (leaf_of s k) (suc a)).left
unfolding block total
leaf_value s heads table k a n kp f = λ z.
    let m = memory_of table heads in
    let leaf : Node s (leaf_of s k) = leaf_node s k kp in
    let e : suc a - 1 ≡ a = omega arith in
    let past : total Puts (block s m (leaf_of s k) a) < n = rw e at f.past in
    let upto : n ≤ total Puts (block s m (leaf_of s k) (suc a)) = f.upto in
    let has : Present s m (leaf_of s k) (suc a) = present f in
    let sound = f.tree.sound in
    let one = at_most_one Puts _ _ ((sound.node (leaf_of s k) leaf).follows a has) (sound.adds k kp a has) in
    let i : n - 1 - (block_at s table (leaf_of s k) (suc a - 1)).puts ≡ 0 = rw e (omega arith) in
    rw (i, find_leaf s m Puts k a z (omega arith)) refl

pub leaf_found : (s : Shape) (heads table : List ℕ) (h v b n : ℕ) → Finds s table h v b n heads → h ≡ 0
    → FoundIn s table h v b n (block_at s table v b).left
leaf_found s heads table (suc h) v b n f e = absurd (omega arith)
leaf_found s heads table zero v zero n f e = absurd (omega (arith, f.past, f.upto))
leaf_found s heads table zero v (suc a) n f e =
    let k = level_leaf s v f.level in
    rw k.2 (leaf_value s heads table k.0 a n k.1 (rw k.2 at f))

-- ---- in the root
module _ (s : Shape) (heads table : List ℕ) (last n : ℕ) (q : Numbered s table last n heads) where
  abbrev m : Memory
  m = memory_of table heads

  pub root_ready : HasPart s table 1 × Reaches (part_of s table 1) puts_word last n
  unfolding root total block
  root_ready =
      search_ready s heads table q.tree s.height root (level_root s) last n (root_written s m q.tree.sound last q.most) q.first q.within

  pub root_finds : (b : ℕ) → First (part_of s table 1) puts_word last n b → Finds s table s.height 1 b n heads
  unfolding root
  root_finds b g = search_finds s heads table q.tree s.height root (level_root s) last n b g

  suc_value : (b : ℕ) → First (part_of s table 1) puts_word last n (suc b) → (r : ℕ) → FoundIn s table s.height 1 (suc b) n r → ValueAt s table n r
  unfolding root total block in_root
  suc_value b g r found = λ z.
      let e : suc b - 1 ≡ b = omega arith in
      let past : total Puts (block s m root b) < n = rw e at (root_finds (suc b) g).past in
      rw (find_root s m q.tree.sound b (n - 1) z (omega (arith, g.most, q.most)) (omega arith) (omega (arith, (root_finds (suc b) g).upto)))
      (rw e at (found z))

  pub root_value : (b : ℕ) → First (part_of s table 1) puts_word last n b → (r : ℕ) → FoundIn s table s.height 1 b n r → ValueAt s table n r
  root_value zero g r found = absurd (omega (arith, g.some))
  root_value (suc b) g r found = suc_value b g r found
