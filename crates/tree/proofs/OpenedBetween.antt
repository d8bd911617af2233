-- What a block of a node above a leaf opens to: of the leaf's process, each operation past the reach of the block before
-- it, up to its own reach, once.
use Prim.Native.Nat.{ℕ, zero, suc, ◌+◌, ◌*◌, ◌-◌, ◌^◌, ◌≤◌, ◌<◌}
use native.Mathlib.Omega.{arith}
use native.Mathlib.Nat.{pow-suc}
use mathlib.Core.Path.{◌≡◌, ap, sym, ◌∙◌}
use mathlib.Core.Logic.{inr}
use mathlib.Core.Bool.{◌&&◌}
use lib.Dec.{leb}
use borrow.Author.Tests.{le-leb, lt-leb}
use Rattle.tree.specs.declared.Kind.{Kind}
use Rattle.tree.specs.declared.Kind.TheVariants.{Puts, Takes}
use Rattle.tree.specs.Shape.{Shape, processes, parent_of, leaf_of}
use Rattle.tree.specs.Memory.{Memory}
use Rattle.tree.specs.Order.{OpId, opened}
use Rattle.tree.specs.Standing.{times}
use Rattle.tree.proofs.Nodes.{leaf_node}
use Rattle.tree.specs.Clauses.Invariant.{Present, Sound}
use Rattle.tree.proofs.Ancestors.{ancestor}
use Rattle.tree.proofs.Reach.{reach, reach_zero, reach_below}
use Rattle.tree.proofs.Levels.{Level}
use Rattle.tree.proofs.Counting.{mark, of_kind, kinds_one, held_opened, held_path}

-- the node of height h above a leaf is one of that level
pub ancestor_level : (s : Shape) (k : ℕ) → k < processes s → (h : ℕ) → h ≤ s.height → Level s h (ancestor s k h)
unfolding leaf_of processes parent_of
ancestor_level s k kp zero low =
    let e : 2 ^ (s.height - 0) ≡ 2 ^ s.height = ap (λ (n : ℕ). 2 ^ n) (omega arith) in
    record { tall = low; low = omega arith; high = omega arith }
ancestor_level s k kp (suc h) low =
    let l : Level s h (ancestor s k h) = ancestor_level s k kp h (omega arith) in
    let e : 2 ^ (s.height - h) ≡ 2 ^ (s.height - suc h) * 2 = ap (λ (n : ℕ). 2 ^ n) (omega arith) ∙ pow-suc 2 (s.height - suc h) in
    record { tall = low; low = omega (arith, l.low, l.high); high = omega (arith, l.low, l.high) }

-- how often operation i of process k is in what block b of its leaf's ancestor of height h opens to, puts and takes
-- together
abbrev pub times_opened : Shape → Memory → ℕ → ℕ → ℕ → ℕ → ℕ
times_opened s m k h b i =
    let x : OpId = record { process = k; serial = i } in
    times x (opened s m.table Puts h (ancestor s k h) b) + times x (opened s m.table Takes h (ancestor s k h) b)

module _ (s : Shape) (m : Memory) (sound : Sound s m) (k : ℕ) (kp : k < processes s) (h : ℕ) (low : h ≤ s.height) (b : ℕ) (has : Present s m (ancestor s k h) (suc b)) where
  -- an operation that a block is the first to reach has its block in the leaf
  first_present : (i : ℕ) → reach s m k h b < i → i ≤ reach s m k h (suc b) → Present s m (leaf_of s k) i
  first_present i past upto = on h low has past upto
    where
      on : (j : ℕ) → j ≤ s.height → Present s m (ancestor s k j) (suc b) → reach s m k j b < i → i ≤ reach s m k j (suc b) → Present s m (leaf_of s k) i
      on zero l f p q = let e : suc b ≡ i = omega (arith, reach_zero s m k b, reach_zero s m k (suc b)) in rw e at f
      on (suc j) l f p q =
          (sound.node (leaf_of s k) (leaf_node s k kp)).filled i (omega arith) (omega (arith, reach_below s m sound k kp j l (suc b) (inr f)))

  module _ (i : ℕ) where
    abbrev op : OpId
    op = record { process = k; serial = i }

    abbrev in_block : Kind → ℕ
    in_block κ = times op (opened s m.table κ h (ancestor s k h) (suc b))

    -- of one kind: the block adds the operation where it is the first to reach it
    kind_between : (κ : Kind) → in_block κ + mark (leb i (reach s m k h b) && of_kind s m κ k i) ≡ mark (leb i (reach s m k h (suc b)) && of_kind s m κ k i)
    kind_between κ =
        ap (λ (n : ℕ). in_block κ + n) (sym (held_path s m κ k i h b))
        ∙ held_opened s m κ k i sound h (ancestor s k h) (ancestor_level s k kp h low) b has
        ∙ held_path s m κ k i h (suc b)

    pub opened_inside : reach s m k h b < i → i ≤ reach s m k h (suc b) → times_opened s m k h (suc b) i ≡ 1
    opened_inside past upto = omega (arith, added Puts, added Takes, kinds_one s m sound k kp i (omega arith) (first_present i past upto))
      where
        added : (κ : Kind) → in_block κ + 0 ≡ mark (of_kind s m κ k i)
        added κ = rw (lt-leb i (reach s m k h b) past, le-leb i (reach s m k h (suc b)) upto) at (kind_between κ)
