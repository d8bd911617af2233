-- One level down from a block that has a put: the child and the number there, the search there, and the put in the
-- subblock found.
use Prim.Native.Nat.{ℕ, zero, suc, ◌+◌, ◌-◌, ◌≤◌, ◌<◌}
use native.Mathlib.Omega.{arith}
use native.Mathlib.Decide.{dec_le}
use mathlib.Core.Path.{◌≡◌, refl, ap, ◌∙◌}
use mathlib.Core.Logic.{inr}
use mathlib.Core.List.{List}
use lib.ListN.{get_or}
use lib.Dec.{leb}
use borrow.Author.Tests.{leb-true, leb-false}
use Rattle.std.specs.Prelude.{if◌then◌else◌}
use Rattle.base.proofs.Cases.{cases}
use Rattle.tree.specs.declared.Kind.TheVariants.{Puts}
use Rattle.tree.specs.Shape.{Shape, left_of, right_of}
use Rattle.tree.specs.Memory.{Memory, block, memory_of}
use Rattle.tree.specs.Order.{OpId, total, opened}
use Rattle.tree.specs.Sides.{Side, onLeft, onRight, child_of, end_of}
use Rattle.tree.specs.Clauses.Invariant.{Node, Inner, Present, Written, Sound}
use Rattle.tree.proofs.Nodes.{inner_node, child_node}
use Rattle.tree.proofs.Sound.{before_written}
use Rattle.tree.proofs.Levels.{Level, level_child, level_inner}
use Rattle.tree.proofs.Opening.{opened_on}
use Rattle.tree.proofs.SideTotals.{child_total, end_total}
use Rattle.tree.proofs.Find.{find_left, find_right, find_on}
use Rattle.tree.specs.Clauses.Access.{HasPart}
use Rattle.tree.specs.Layout.{part_of}
use Rattle.tree.specs.Clauses.SoundTree.{SoundTree}
use Rattle.search.specs.declared.find.Descent.{Descent}
use Rattle.search.specs.Clauses.Searched.{Reaches, First}
use Rattle.search.specs.Clauses.Descending.{Finds, FoundIn, Descends, descent_of}
use Rattle.tree.proofs.Places.{processes_most, node_small, written_place}
use Rattle.search.proofs.ChildReads.{end_written, end_place}
use Rattle.search.proofs.NumbersUp.{beside_total, child_rises, ends_total, sum_before, sum_here}
use Rattle.search.proofs.PutSearch.{search_ready, search_finds}
use Rattle.tree.specs.Blocks.{puts_word, block_at}

-- put number n of v's block suc a is on a side d of it: its number in the child there, and the list that it is in
pub record OnSide (s : Shape) (m : Memory) (h v a n : ℕ) (d : Side) (number : ℕ) : Type 0 where
  past : end_total s m Puts v a d < number
  upto : number ≤ end_total s m Puts v (suc a) d
  same : (z : OpId)
      → get_or (opened s m.table Puts (suc h) v (suc a)) (n - 1 - total Puts (block s m v a)) z ≡ get_or (opened_on s m Puts h v a d) (number - 1 - end_total s m Puts v a d) z

-- a descent of that put: to the child on that side, in a place there up to the end
pub record Lower (s : Shape) (m : Memory) (h v a n u last number : ℕ) : Type 0 where
  side : Side
  child : u ≡ child_of side v
  end : last ≡ end_of side (block s m v (suc a))
  on : OnSide s m h v a n side number

right_index : (n t l l' r : ℕ) → t ≡ l + r → l ≤ l' → l' + r < n → n - 1 - t - (l' - l) ≡ n - l' - 1 - r
right_index n t l l' r e le lt =
    let x : l' ≡ l + (l' - l) = omega arith in
    rw e (shifted n l r (l' - l) (omega arith) ∙ rw (← x))
  where
    shifted : (n l r d : ℕ) → l + d + r < n → n - 1 - (l + r) - d ≡ n - (l + d) - 1 - r
    shifted n l r d lt = omega arith

module _ (s : Shape) (heads table : List ℕ) (h v a n : ℕ) (f : Finds s table (suc h) v (suc a) n heads) where
  abbrev m : Memory
  m = memory_of table heads

  abbrev tree : SoundTree s heads table
  tree = f.tree

  abbrev sound : Sound s m
  sound = tree.sound

  inner : Inner s v
  inner = level_inner s h v f.level

  node : Node s v
  node = inner_node s v inner

  past : total Puts (block s m v a) < n
  unfolding total block
  past = let e : suc a - 1 ≡ a = omega arith in rw e at f.past

  upto : n ≤ total Puts (block s m v (suc a))
  unfolding total block
  upto = f.upto

  has : Present s m v (suc a)
  unfolding total
  has = omega (arith, past, upto)

  before : Written s m v a
  before = before_written (sound.node v node) a has

  abbrev totals : total Puts (block s m v a) ≡ end_total s m Puts v a onLeft + end_total s m Puts v a onRight
  totals = sum_before s m sound Puts h v f.level a has

  on_left : n ≤ beside_total s m Puts v a onRight + beside_total s m Puts v a onLeft → OnSide s m h v a n onLeft (n - beside_total s m Puts v a onLeft)
  on_left l =
      record {
        past = omega (arith, past, totals);
        upto = omega arith;
        same = λ z.
            find_left s m sound Puts h v f.level a has z (n - 1 - total Puts (block s m v a)) (omega (arith, past, totals))
            ∙ ap (λ (i : ℕ). get_or (opened_on s m Puts h v a onLeft) i z) (omega (arith, past, totals));
      }

  on_right : beside_total s m Puts v a onRight + beside_total s m Puts v a onLeft < n → OnSide s m h v a n onRight (n - beside_total s m Puts v a onRight)
  on_right l =
      record {
        past = omega arith;
        upto = omega (arith, upto, sum_here s m sound Puts h v f.level a has);
        same = λ z.
            find_right s m sound Puts h v f.level a has z (n - 1 - total Puts (block s m v a)) (omega (arith, past, totals))
            ∙ ap (λ (i : ℕ). get_or (opened_on s m Puts h v a onRight) i z) (right_index _ _ _ _ _ totals (ends_total s m sound Puts h v f.level a has onLeft) l);
      }

  small_puts : (u i : ℕ) → Node s u → (block_at s table u i).puts ≤ 4000
  small_puts u i nu = omega (arith, node_small tree u i nu)

  pub descends : Descends s table v (suc a) n
  unfolding left_of right_of total block
  descends =
      let e : suc a - 1 ≡ a = omega arith in
      record {
        some = omega arith;
        low = omega (arith, node.last, processes_most s tree.tall);
        here = written_place tree v (suc a) node (inr has);
        before = rw e (written_place tree v a node before);
        left = end_place s heads table tree v inner onLeft (suc a) (inr has);
        right = rw e (end_place s heads table tree v inner onRight a before);
        small = omega (
          arith,
          small_puts (child_of onLeft v) (block_at s table v (suc a)).left (child_node s onLeft v inner),
          small_puts (child_of onRight v) (block_at s table v (suc a - 1)).right (child_node s onRight v inner),
        );
        past = rw e (omega (arith, past, totals));
      }

  abbrev descent_on : Side → Descent
  descent_on d = record { node = child_of d v; last = end_of d (block s m v (suc a)); number = n - beside_total s m Puts v a d }

  -- the descent, by the memory's blocks
  descent_is : descent_of s table v (suc a) n ≡ (if leb n (beside_total s m Puts v a onRight + beside_total s m Puts v a onLeft) then descent_on onLeft else descent_on onRight)
  unfolding descent_of left_of right_of total block
  descent_is =
      let e : suc a - 1 ≡ a = omega arith in
      rw e refl

  pub lower : Lower s m h v a n (descent_of s table v (suc a) n).node (descent_of s table v (suc a) n).last (descent_of s table v (suc a) n).number
  lower =
      rw descent_is
      (cases (λ (r : Descent). Lower s m h v a n r.node r.last r.number) (leb n (beside_total s m Puts v a onRight + beside_total s m Puts v a onLeft))
      (λ t. record { side = onLeft; child = refl; end = refl; on = on_left (leb-true _ _ t) })
      (λ t. record { side = onRight; child = refl; end = refl; on = on_right (leb-false _ _ t) }))

  module _ (u last number : ℕ) (l : Lower s m h v a n u last number) where
    abbrev d : Side
    d = l.side

    level : Level s h u
    level = rw l.child (level_child s h v f.level d)

    pub lower_ready : HasPart s table u × Reaches (part_of s table u) puts_word last number
    lower_ready =
        search_ready s heads table tree h u level last number
        (rw (l.child, l.end) (end_written s heads table tree v inner d (suc a) (inr has)))
        (omega (arith, l.on.past))
        (rw (l.child, l.end) l.on.upto)

    pub lower_finds : (c : ℕ) → First (part_of s table u) puts_word last number c → Finds s table h u c number heads
    lower_finds c = search_finds s heads table tree h u level last number c

    -- the subblock found has the put
    module _ (c : ℕ) (g : First (part_of s table u) puts_word last number (suc c)) where
      past_before : child_total s m Puts v d c < number
      unfolding total block
      past_before = let e : suc c - 1 ≡ c = omega arith in rw (l.child, e) at (lower_finds (suc c) g).past

      upto_here : number ≤ child_total s m Puts v d (suc c)
      unfolding total block
      upto_here = rw l.child at (lower_finds (suc c) g).upto

      -- it is one of the block's, since the child's total at the end in the block before does not reach the number
      past_end : end_of d (block s m v a) ≤ c
      past_end = on (dec_le (suc c) (end_of d (block s m v a)))
        where
          on : Dec (suc c ≤ end_of d (block s m v a)) → end_of d (block s m v a) ≤ c
          on (yes q) =
              absurd
              (omega (
                arith,
                l.on.past,
                upto_here,
                child_rises s m sound Puts h v f.level a has d (suc c) (end_of d (block s m v a)) q ((sound.joins v inner a has).rises d),
              ))
          on (no q) = omega arith

      end_low : end_total s m Puts v a d ≤ child_total s m Puts v d c
      end_low = child_rises s m sound Puts h v f.level a has d (end_of d (block s m v a)) c past_end (omega (arith, g.most, l.end))

      same_put : (z : OpId)
          → get_or (opened s table Puts (suc h) v (suc a)) (n - 1 - total Puts (block s m v a)) z
          ≡ get_or (opened s table Puts h (child_of d v) (suc c)) (number - 1 - child_total s m Puts v d c) z
      same_put z =
          l.on.same z
          ∙ find_on s m sound Puts h v f.level a has z d c (number - 1 - end_total s m Puts v a d) past_end (omega (arith, g.most, l.end))
          (omega (arith, l.on.past, past_before)) (omega (arith, l.on.past, upto_here))
          ∙ ap (λ (i : ℕ). get_or (opened s table Puts h (child_of d v) (suc c)) i z) (omega (arith, end_low, past_before))

      suc_found : (r : ℕ) → FoundIn s table h u (suc c) number r → FoundIn s table (suc h) v (suc a) n r
      unfolding total block
      suc_found r found = λ z.
          let e : suc a - 1 ≡ a = omega arith in
          let g : suc c - 1 ≡ c = omega arith in
          rw (e, same_put z) (rw (g, l.child) at (found z))

    pub lower_found : (c : ℕ) → First (part_of s table u) puts_word last number c → (r : ℕ) → FoundIn s table h u c number r → FoundIn s table (suc h) v (suc a) n r
    lower_found zero g = absurd (omega (arith, g.some))
    lower_found (suc c) g = suc_found c g
