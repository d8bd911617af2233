-- The root's blocks: those up to the last are present and no later one is; how many operations they have, and what
-- holds of all of these.
use Prim.Native.Nat.{ℕ, zero, suc, ◌+◌, ◌-◌, ◌≤◌, ◌<◌}
use native.Mathlib.Omega.{arith}
use native.Mathlib.Decide.{ℕ_discrete, dec_le}
use mathlib.Core.Path.{◌≡◌, refl, ap, ◌∙◌}
use mathlib.Core.Logic.{inl, inr}
use mathlib.Core.Bool.{true}
use mathlib.Core.List.{flat_map}
use lib.ListN.{length, length-append}
use Rattle.base.specs.Between.{between}
use Rattle.base.proofs.Cases.{cases}
use Rattle.base.specs.Members.{All}
use Rattle.base.proofs.Gather.{gather_all, gather_measure}
use Rattle.tree.specs.declared.Kind.{Kind}
use Rattle.tree.specs.Shape.{Shape, processes, root, leaf_of, last_place}
use Rattle.tree.specs.Blocks.{absent}
use Rattle.tree.specs.Memory.{Memory, head_of, block}
use Rattle.tree.specs.Order.{OpId, total, in_root, last_among, last_root}
use Rattle.tree.specs.Clauses.Invariant.{Node, Present, Written, NodeSound, Sound}
use Rattle.tree.proofs.Nodes.{root_node}
use Rattle.tree.proofs.Presence.{absent_count, present_count}
use Rattle.tree.proofs.Sound.{place_count, written_low, first_zeros, zero_total}
use Rattle.tree.proofs.Levels.{level_root}
use Rattle.tree.proofs.Opening.{opened_length, opened_all}

pub node_root : (s : Shape) → Node s root
unfolding root
node_root s = root_node s

-- r is the last present place of v among the first n
record Last (s : Shape) (m : Memory) (v n r : ℕ) : Type 0 where
  written : Written s m v r
  most : (i : ℕ) → i ≤ n → Present s m v i → i ≤ r

last_among_lem : (s : Shape) (m : Memory) (v n : ℕ) → Last s m v n (last_among s m.table v n)
unfolding last_among block
last_among_lem s m v zero = record { written = inl refl; most = λ i l f. l }
last_among_lem s m v (suc n) =
    cases (Last s m v (suc n)) (absent (block s m v (suc n)))
    (λ e. let ih = last_among_lem s m v n in record { written = ih.written; most = λ i l f. old e ih i l f (ℕ_discrete i (suc n)) })
    (λ e. record { written = inr (present_count (block s m v (suc n)) e); most = λ i l f. l })
  where
    old : absent (block s m v (suc n)) ≡ true → Last s m v n (last_among s m.table v n) → (i : ℕ) → i ≤ suc n → Present s m v i → Dec (i ≡ suc n)
        → i ≤ last_among s m.table v n
    old e ih i l f (yes z) = let g : Present s m v (suc n) = rw z at f in absurd (omega (arith, absent_count (block s m v (suc n)) e))
    old e ih i l f (no z) = ih.most i (omega arith) f

module _ (s : Shape) (m : Memory) (sound : Sound s m) where
  pub root_sound : NodeSound s m root
  root_sound = sound.node root (node_root s)

  pub last_written : Written s m root (last_root s m.table)
  unfolding last_root
  last_written = (last_among_lem s m root (last_place s root)).written

  pub last_most : (i : ℕ) → Present s m root i → i ≤ last_root s m.table
  unfolding last_root
  last_most i f =
      (last_among_lem s m root (last_place s root)).most i (omega (arith, place_count root_sound i (inr f), root_sound.within i)) f

  pub last_head : last_root s m.table ≤ head_of m root
  last_head = written_low root_sound (last_root s m.table) last_written

  -- all blocks up to the last are present
  pub root_present : (i : ℕ) → i < last_root s m.table → Present s m root (suc i)
  root_present i l = on (ℕ_discrete (suc i) (last_root s m.table)) last_written
    where
      on : Dec (suc i ≡ last_root s m.table) → Written s m root (last_root s m.table) → Present s m root (suc i)
      on (yes e) (inl z) = absurd (omega arith)
      on (yes e) (inr f) = rw e f
      on (no e) p = root_sound.filled (suc i) (omega arith) (omega (arith, last_head))

  pub root_written : (i : ℕ) → i ≤ last_root s m.table → Written s m root i
  root_written zero l = inl refl
  root_written (suc i) l = inr (root_present i l)

  -- the head is at the last block or one past it
  pub head_last : head_of m root ≤ suc (last_root s m.table)
  head_last = on (dec_le (head_of m root) 1)
    where
      on : Dec (head_of m root ≤ 1) → head_of m root ≤ suc (last_root s m.table)
      on (yes l) = omega arith
      on (no l) = omega (arith, last_most (head_of m root - 1) (root_sound.filled (head_of m root - 1) (omega arith) (omega arith)))

  module _ (κ : Kind) where
    pub root_length : (b : ℕ) → Present s m root (suc b) → length (in_root s m.table κ (suc b)) + total κ (block s m root b) ≡ total κ (block s m root (suc b))
    unfolding in_root
    root_length b f = opened_length s m sound κ s.height root (level_root s) b f

    -- the totals of a root block are how many operations it and those before it have
    pub order_length : (b : ℕ) → b ≤ last_root s m.table → length (flat_map (in_root s m.table κ) (between 0 b)) ≡ total κ (block s m root b)
    order_length b l =
        omega (
          arith,
          gather_measure length refl length-append (in_root s m.table κ) (λ j. total κ (block s m root j)) 0 b (omega arith) (λ j p q. root_length j (root_present j (omega arith))),
          ap (total κ) (first_zeros root_sound) ∙ zero_total κ,
        )

    module _ (P : OpId → Type 0)
        (leaf : (k : ℕ) → k < processes s → (i : ℕ) → Present s m (leaf_of s k) (suc i)
        → total κ (block s m (leaf_of s k) i) < total κ (block s m (leaf_of s k) (suc i)) → P (record { process = k; serial = suc i }))
      where
        -- what holds of every operation of the kind that a leaf has holds of every one of the kind in the root
        pub all_in_root : (b : ℕ) → Present s m root (suc b) → All P (in_root s m.table κ (suc b))
        unfolding in_root
        all_in_root b f = opened_all s m sound κ P leaf s.height root (level_root s) b f

        pub all_in_roots : (i j : ℕ) → i ≤ j → j ≤ last_root s m.table → All P (flat_map (in_root s m.table κ) (between i j))
        all_in_roots i j le l = gather_all P (in_root s m.table κ) i j le (λ b p q. all_in_root b (root_present b (omega arith)))
