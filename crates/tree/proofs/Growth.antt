-- How one step may make a memory grow, and that such growth keeps the memory invariant.
use Rattle.std.specs.Prelude.{if◌then◌else◌}
use Prim.Native.Nat.{ℕ, zero, suc, ◌+◌, ◌≤◌, ◌<◌}
use native.Mathlib.Omega.{arith}
use native.Mathlib.Decide.{dec_lt, dec_le}
use mathlib.Core.Path.{◌≡◌, refl, ap, ◌∙◌}
use mathlib.Core.Logic.{◌⊎◌, inl, inr}
use lib.Dec.{eqb}
use Rattle.tree.specs.declared.Block.{Block}
use Rattle.tree.specs.declared.Kind.{Kind}
use Rattle.tree.specs.declared.Kind.TheVariants.{Puts, Takes}
use Rattle.tree.specs.Shape.{Shape, processes, leaf_of, last_place}
use Rattle.tree.specs.Memory.{Memory, head_of, block}
use Rattle.tree.specs.Size.{root_size}
use Rattle.tree.specs.Order.{total}
use Rattle.tree.specs.Sides.{Side, onLeft, onRight, child_of, end_of}
use Rattle.tree.specs.Clauses.Invariant.{Node, Inner, count, Present, Written, Follows, AddsOne, Joins, NodeSound, Sound}
use Rattle.tree.proofs.Nodes.{child_node, inner_node, leaf_node}
use Rattle.tree.proofs.Sound.{below_head, present_low, before_written}

-- two blocks are equal, super and number aside
pub record Same (x y : Block) : Type 0 where
  pub puts : x.puts ≡ y.puts
  pub takes : x.takes ≡ y.takes
  pub left : x.left ≡ y.left
  pub right : x.right ≡ y.right
  pub size : x.size ≡ y.size

pub same_refl : (x : Block) → Same x x
same_refl x = record { puts = refl; takes = refl; left = refl; right = refl; size = refl }

pub same_total : (κ : Kind) {x y : Block} → Same x y → total κ x ≡ total κ y
unfolding total
same_total Puts e = e.puts
same_total Takes e = e.takes

pub same_end : (d : Side) {x y : Block} → Same x y → end_of d x ≡ end_of d y
same_end onLeft e = e.left
same_end onRight e = e.right

-- what a new block c at place suc i of node u is
pub record Fresh (s : Shape) (m : Memory) (u i : ℕ) (c : Block) : Type 0 where
  pub place : suc i ≡ head_of m u
  pub within : count c ≤ last_place s u
  pub follows : Follows (block s m u i) c
  pub joins : Inner s u → Joins s m u (block s m u i) c
  pub adds : (k : ℕ) → k < processes s → u ≡ leaf_of s k → AddsOne (block s m u i) c

-- from m to n: a head stays, or rises by one past a present block; what is written stays, super and number aside (of
-- numbers see steps/WrittenNumbers); what is absent is as it was; a new block is at the head
pub record Grows (s : Shape) (m n : Memory) : Type 0 where
  pub raised : (u : ℕ) → Node s u → (head_of n u ≡ head_of m u) ⊎ ((head_of n u ≡ head_of m u + 1) × Present s m u (head_of m u))
  pub stays : (u i : ℕ) → Node s u → Written s m u i → Same (block s n u i) (block s m u i)
  pub absents : (u i : ℕ) → Node s u → count (block s n u i) ≡ 0 → block s n u i ≡ block s m u i
  pub fresh : (u i : ℕ) → Node s u → Present s n u (suc i) → Present s m u (suc i) ⊎ Fresh s m u i (block s n u (suc i))

module _ {s : Shape} {m n : Memory} (g : Grows s m n) where
  pub heads_rise : (u : ℕ) → Node s u → head_of m u ≤ head_of n u
  heads_rise u nu = on (g.raised u nu)
    where
      on : (head_of n u ≡ head_of m u) ⊎ ((head_of n u ≡ head_of m u + 1) × Present s m u (head_of m u)) → head_of m u ≤ head_of n u
      on (inl e) = omega arith
      on (inr e) = omega arith

  pub present_stays : (u i : ℕ) → Node s u → Present s m u i → Present s n u i
  present_stays u i nu f = let e = g.stays u i nu (inr f) in omega (arith, e.puts, e.takes)

-- nothing happens
pub grows_refl : (s : Shape) (m : Memory) → Grows s m m
grows_refl s m = record { raised = λ u nu. inl refl; stays = λ u i nu p. same_refl (block s m u i); absents = λ u i nu z. refl; fresh = λ u i nu f. inl f }

-- ---- what holds of two neighbours holds of blocks that are the same
pub follows_same : (b c b' c' : Block) → Same b' b → Same c' c → Follows b c → Follows b' c'
follows_same b c b' c' p q f =
    record {
      rises = λ κ. omega (arith, f.rises κ, same_total κ p, same_total κ q);
      more = omega (arith, f.more, p.puts, p.takes, q.puts, q.takes);
    }

adds_same : (b c b' c' : Block) → Same b' b → Same c' c → AddsOne b c → AddsOne b' c'
adds_same b c b' c' p q f = record { one = omega (arith, f.one, p.puts, p.takes, q.puts, q.takes) }

size_same : (b c b' c' : Block) → Same b' b → Same c' c → root_size b c.puts c.takes ≡ root_size b' c'.puts c'.takes
unfolding root_size
size_same b c b' c' p q = rw (p.size, p.puts, p.takes, q.puts, q.takes)

module _ (s : Shape) (m n : Memory) (sound : Sound s m) (g : Grows s m n) where
  pub joins_grows : (v : ℕ) → Inner s v → (b c b' c' : Block) → Same b' b → Same c' c → Joins s m v b c → Joins s n v b' c'
  joins_grows v iv b c b' c' p q j =
      record {
        rises = λ d. omega (arith, j.rises d, same_end d p, same_end d q);
        below = λ d. omega (arith, j.below d, same_end d q, heads_rise g (child_of d v) (child_node s d v iv));
        sums = λ κ. omega (arith, j.sums κ, same_total κ q, same_total κ (at onLeft), same_total κ (at onRight), moved κ onLeft, moved κ onRight);
        sized = q.size ∙ j.sized ∙ ap (λ (x : ℕ). if eqb v 1 then x else 0) (size_same b c b' c' p q);
      }
    where
      at : (d : Side) → Same (block s n (child_of d v) (end_of d c)) (block s m (child_of d v) (end_of d c))
      at d = g.stays (child_of d v) (end_of d c) (child_node s d v iv) (below_head (sound.node (child_of d v) (child_node s d v iv)) (end_of d c) (j.below d))

      moved : (κ : Kind) (d : Side) → total κ (block s n (child_of d v) (end_of d c')) ≡ total κ (block s n (child_of d v) (end_of d c))
      moved κ d = ap (λ (e : ℕ). total κ (block s n (child_of d v) e)) (same_end d q)

  module _ (u : ℕ) (nu : Node s u) where
    old : NodeSound s m u
    old = sound.node u nu

    filled_grows : (i : ℕ) → 1 ≤ i → i < head_of n u → Present s n u i
    filled_grows i a h = on (dec_lt i (head_of m u)) (g.raised u nu)
      where
        on : Dec (i < head_of m u) → (head_of n u ≡ head_of m u) ⊎ ((head_of n u ≡ head_of m u + 1) × Present s m u (head_of m u)) → Present s n u i
        on (yes l) d = present_stays g u i nu (old.filled i a l)
        on (no l) (inl e) = absurd (omega arith)
        on (no l) (inr e) = let f : i ≡ head_of m u = omega arith in present_stays g u i nu (rw f e.1)

    empty_grows : (i : ℕ) → head_of n u < i → count (block s n u i) ≡ 0
    empty_grows zero h = absurd (omega arith)
    empty_grows (suc i) h = on (dec_le 1 (count (block s n u (suc i))))
      where
        out : Present s m u (suc i) ⊎ Fresh s m u i (block s n u (suc i)) → ⊥
        out (inl f) = omega (arith, present_low old (suc i) f, heads_rise g u nu)
        out (inr f) = omega (arith, f.place, heads_rise g u nu)

        on : Dec (Present s n u (suc i)) → count (block s n u (suc i)) ≡ 0
        on (yes f) = absurd (out (g.fresh u i nu f))
        on (no f) = omega arith

    first_grows : count (block s n u 0) ≡ 0
    first_grows = let e = g.stays u 0 nu (inl refl) in omega (arith, e.puts, e.takes, old.first)

    -- what holds of a place and the one before holds in n: both are old, or the second is new
    pair_grows : (P : Memory → Block → Block → Type 0)
        → ((b c b' c' : Block) → Same b' b → Same c' c → P m b c → P n b' c')
        → ((i : ℕ) → Present s m u (suc i) → P m (block s m u i) (block s m u (suc i)))
        → ((i : ℕ) → Fresh s m u i (block s n u (suc i)) → P m (block s m u i) (block s n u (suc i)))
        → (i : ℕ) → Present s n u (suc i) → P n (block s n u i) (block s n u (suc i))
    pair_grows P same olds news i f = on (g.fresh u i nu f)
      where
        on : Present s m u (suc i) ⊎ Fresh s m u i (block s n u (suc i)) → P n (block s n u i) (block s n u (suc i))
        on (inl h) = same _ _ _ _ (g.stays u i nu (before_written old i h)) (g.stays u (suc i) nu (inr h)) (olds i h)
        on (inr h) = same _ _ _ _ (g.stays u i nu (below_head old i (omega (arith, h.place)))) (same_refl _) (news i h)

    within_grows : (i : ℕ) → count (block s n u i) ≤ last_place s u
    within_grows zero = omega (arith, first_grows)
    within_grows (suc i) = on (dec_le 1 (count (block s n u (suc i))))
      where
        at : Present s m u (suc i) ⊎ Fresh s m u i (block s n u (suc i)) → count (block s n u (suc i)) ≤ last_place s u
        at (inl h) = let e = g.stays u (suc i) nu (inr h) in omega (arith, e.puts, e.takes, old.within (suc i))
        at (inr h) = h.within

        on : Dec (Present s n u (suc i)) → count (block s n u (suc i)) ≤ last_place s u
        on (yes f) = at (g.fresh u i nu f)
        on (no f) = omega arith

    node_grows : NodeSound s n u
    node_grows =
        record {
          head = omega (arith, old.head, heads_rise g u nu);
          filled = filled_grows;
          empty = empty_grows;
          first = first_grows;
          clear = λ i z. g.absents u i nu z ∙ old.clear i (rw (g.absents u i nu z) at z);
          follows = pair_grows (λ x b c. Follows b c) follows_same old.follows (λ i h. h.follows);
          within = within_grows;
        }

  -- growth keeps the memory invariant
  pub sound_grows : Sound s n
  sound_grows =
      record {
        node = node_grows;
        joins = λ v iv. pair_grows v (inner_node s v iv) (λ x. Joins s x v) (joins_grows v iv) (sound.joins v iv) (λ i h. h.joins iv);
        adds = λ k kp. pair_grows (leaf_of s k) (leaf_node s k kp) (λ x. AddsOne) adds_same (sound.adds k kp) (λ i h. h.adds k kp refl);
      }
