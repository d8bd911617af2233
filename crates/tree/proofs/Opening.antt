-- Opening a block of a sound memory: where its operations come from, how many they are, and that they stay.
use Rattle.std.specs.Prelude.{if◌then◌else◌}
use Prim.Native.Nat.{ℕ, zero, suc, ◌+◌, ◌-◌, ◌≤◌, ◌<◌}
use native.Mathlib.Omega.{arith}
use native.Mathlib.Decide.{dec_lt}
use mathlib.Core.Path.{◌≡◌, refl, ap₂, ◌∙◌}
use mathlib.Core.Logic.{inr}
use mathlib.Core.List.{List, [], ◌∷◌, ◌++◌, flat_map}
use lib.ListN.{length, length-append}
use lib.Dec.{ltb}
use borrow.Author.Tests.{lt-ltb, le-ltb, ltb-true}
use Rattle.base.specs.Between.{between}
use Rattle.base.proofs.Cases.{cases}
use Rattle.base.specs.Members.{All}
use Rattle.base.proofs.Members.{all_append}
use Rattle.base.proofs.Gather.{gather_none, gather_same, gather_all, gather_measure}
use Rattle.tree.specs.declared.Block.{Block}
use Rattle.tree.specs.declared.Kind.{Kind}
use Rattle.tree.specs.declared.Kind.TheVariants.{Puts, Takes}
use Rattle.tree.specs.Shape.{Shape, processes, leaf_of}
use Rattle.tree.specs.Memory.{Memory, block}
use Rattle.tree.specs.Blocks.{block_at}
use Rattle.tree.specs.Order.{OpId, total, opened}
use Rattle.tree.specs.Sides.{subblocks, Side, onLeft, onRight, child_of, end_of}
use Rattle.tree.specs.Clauses.Invariant.{Node, Inner, Present, Written, Follows, AddsOne, Sound}
use Rattle.tree.proofs.Nodes.{inner_node, child_node, leaf_node}
use Rattle.tree.proofs.Sound.{before_written, sums_at}
use Rattle.tree.proofs.Growth.{Same, same_total, same_end}
use Rattle.tree.proofs.Later.{Later}
use Rattle.tree.proofs.Levels.{Level, level_child, level_inner, level_leaf}

-- what the subblocks on side d of v's block suc i open to, v being of height suc h
abbrev pub opened_on : Shape → Memory → Kind → ℕ → ℕ → ℕ → Side → List OpId
opened_on s m κ h v i d = flat_map (opened s m.table κ h (child_of d v)) (between (end_of d (block s m v i)) (end_of d (block s m v (suc i))))

less_one : (i : ℕ) → suc i - 1 ≡ i
less_one i = omega arith

module _ (s : Shape) (m : Memory) (κ : Kind) where
  pub opened_leaf : (v i : ℕ)
      → opened s m.table κ 0 v (suc i)
      ≡ (if ltb (total κ (block s m v i)) (total κ (block s m v (suc i))) then record { process = v - processes s; serial = suc i } ∷ [] else [])
  unfolding opened block
  opened_leaf v i = rw (less_one i)

  pub opened_inner : (h v i : ℕ) → opened s m.table κ (suc h) v (suc i) ≡ opened_on s m κ h v i onLeft ++ opened_on s m κ h v i onRight
  unfolding opened subblocks block
  opened_inner h v i = rw (less_one i)

  -- block 0 opens to nothing: no block is before it
  pub opened_zero : (h v : ℕ) → opened s m.table κ h v 0 ≡ []
  unfolding opened subblocks
  opened_zero zero v = rw (le-ltb (total κ (block_at s m.table v 0)) (total κ (block_at s m.table v 0)) (omega arith))
  opened_zero (suc h) v =
      ap₂ ◌++◌ (gather_none (opened s m.table κ h (child_of onLeft v)) (end_of onLeft (block_at s m.table v 0)))
      (gather_none (opened s m.table κ h (child_of onRight v)) (end_of onRight (block_at s m.table v 0)))

-- the subblocks of a present block are present
module _ {s : Shape} {m : Memory} (sound : Sound s m) (v : ℕ) (iv : Inner s v) (i : ℕ) (f : Present s m v (suc i)) (d : Side) where
  pub subblocks_rise : end_of d (block s m v i) ≤ end_of d (block s m v (suc i))
  subblocks_rise = (sound.joins v iv i f).rises d

  pub subblock_present : (b : ℕ) → b < end_of d (block s m v (suc i)) → Present s m (child_of d v) (suc b)
  subblock_present b l =
      (sound.node (child_of d v) (child_node s d v iv)).filled (suc b) (omega arith) (omega (arith, (sound.joins v iv i f).below d))

-- ---- a measure that adds up
module _ (μ : List OpId → ℕ) (nil : μ [] ≡ 0) (app : (xs ys : List OpId) → μ (xs ++ ys) ≡ μ xs + μ ys) (s : Shape) (m : Memory) (sound : Sound s m) (κ : Kind)
    (Γ : ℕ → ℕ → ℕ → ℕ)
    (leaf : (k : ℕ) → k < processes s → (i : ℕ) → Present s m (leaf_of s k) (suc i)
    → μ (opened s m.table κ 0 (leaf_of s k) (suc i)) + Γ 0 (leaf_of s k) i ≡ Γ 0 (leaf_of s k) (suc i))
    (inner : (h v : ℕ) → Level s (suc h) v → (i : ℕ) → Written s m v i
    → Γ (suc h) v i ≡ Γ h (child_of onLeft v) (end_of onLeft (block s m v i)) + Γ h (child_of onRight v) (end_of onRight (block s m v i)))
  where
    -- if Γ grows by the measure at each leaf's block, and Γ of a block is the sum of Γ at its ends, then Γ grows by the
    -- measure at each block
    pub opened_measure : (h v : ℕ) → Level s h v → (i : ℕ) → Present s m v (suc i) → μ (opened s m.table κ h v (suc i)) + Γ h v i ≡ Γ h v (suc i)
    opened_measure zero v l i f =
        let k = level_leaf s v l in
        rw k.2 (leaf k.0 k.1 i (rw k.2 at f))
    opened_measure (suc h) v l i f =
        rw (opened_inner s m κ h v i)
        (omega (
          arith,
          app (opened_on s m κ h v i onLeft) (opened_on s m κ h v i onRight),
          side onLeft (λ b. opened_measure h _ (level_child s h v l onLeft) b),
          side onRight (λ b. opened_measure h _ (level_child s h v l onRight) b),
          inner h v l i (before_written (sound.node v (inner_node s v iv)) i f),
          inner h v l (suc i) (inr f),
        ))
      where
        iv : Inner s v
        iv = level_inner s h v l

        side : (d : Side)
            → ((b : ℕ) → Present s m (child_of d v) (suc b) → μ (opened s m.table κ h (child_of d v) (suc b)) + Γ h (child_of d v) b ≡ Γ h (child_of d v) (suc b))
            → μ (opened_on s m κ h v i d) + Γ h (child_of d v) (end_of d (block s m v i)) ≡ Γ h (child_of d v) (end_of d (block s m v (suc i)))
        side d ih =
            gather_measure μ nil app (opened s m.table κ h (child_of d v)) (Γ h (child_of d v)) _ _ (subblocks_rise sound v iv i f d)
            (λ b p q. ih b (subblock_present sound v iv i f d b q))

-- ---- how many
pub at_most_one : (κ : Kind) (x y : Block) → Follows x y → AddsOne x y → total κ y ≤ total κ x + 1
unfolding total
at_most_one Puts x y f a = omega (arith, f.rises Takes, a.one)
at_most_one Takes x y f a = omega (arith, f.rises Puts, a.one)

length_if : (a b : ℕ) (x : OpId) → a ≤ b → b ≤ a + 1 → length (if ltb a b then x ∷ [] else []) + a ≡ b
length_if a b x p q = on (dec_lt a b)
  where
    on : Dec (a < b) → length (if ltb a b then x ∷ [] else []) + a ≡ b
    on (yes l) = rw (lt-ltb a b l) (omega arith)
    on (no l) = rw (le-ltb a b (omega arith)) (omega arith)

-- a block opens to as many operations as its totals are above those of the block before it
pub opened_length : (s : Shape) (m : Memory) → Sound s m → (κ : Kind) (h v : ℕ) → Level s h v → (i : ℕ) → Present s m v (suc i)
    → length (opened s m.table κ h v (suc i)) + total κ (block s m v i) ≡ total κ (block s m v (suc i))
opened_length s m sound κ =
    opened_measure length refl length-append s m sound κ (λ h v i. total κ (block s m v i))
    (λ k kp i f.
    let follows = (sound.node (leaf_of s k) (leaf_node s k kp)).follows i f in
    rw (opened_leaf s m κ (leaf_of s k) i) (length_if _ _ _ (follows.rises κ) (at_most_one κ _ _ follows (sound.adds k kp i f))))
    (λ h v l i p. sums_at sound v (level_inner s h v l) i p κ)

-- ---- which
module _ (s : Shape) (m : Memory) (sound : Sound s m) (κ : Kind) (P : OpId → Type 0)
    (leaf : (k : ℕ) → k < processes s → (i : ℕ) → Present s m (leaf_of s k) (suc i)
    → total κ (block s m (leaf_of s k) i) < total κ (block s m (leaf_of s k) (suc i)) → P (record { process = k; serial = suc i }))
  where
    leaf_all : (k : ℕ) → k < processes s → (i : ℕ) → Present s m (leaf_of s k) (suc i) → All P (opened s m.table κ 0 (leaf_of s k) (suc i))
    unfolding leaf_of
    leaf_all k kp i f =
        let e : leaf_of s k - processes s ≡ k = omega arith in
        rw (opened_leaf s m κ (leaf_of s k) i)
        (cases (All P) (ltb (total κ (block s m (leaf_of s k) i)) (total κ (block s m (leaf_of s k) (suc i))))
        (λ t. (rw e (leaf k kp i f (ltb-true _ _ t)), tt)) (λ t. tt))

    -- what holds of every operation of the kind that a leaf has holds of every operation of the kind in a block
    pub opened_all : (h v : ℕ) → Level s h v → (i : ℕ) → Present s m v (suc i) → All P (opened s m.table κ h v (suc i))
    opened_all zero v l i f = let k = level_leaf s v l in rw k.2 (leaf_all k.0 k.1 i (rw k.2 at f))
    opened_all (suc h) v l i f =
        rw (opened_inner s m κ h v i)
        (all_append P (opened_on s m κ h v i onLeft) (opened_on s m κ h v i onRight)
        (side onLeft (λ b. opened_all h _ (level_child s h v l onLeft) b)) (side onRight (λ b. opened_all h _ (level_child s h v l onRight) b)))
      where
        iv : Inner s v
        iv = level_inner s h v l

        side : (d : Side) → ((b : ℕ) → Present s m (child_of d v) (suc b) → All P (opened s m.table κ h (child_of d v) (suc b))) → All P (opened_on s m κ h v i d)
        side d ih =
            gather_all P (opened s m.table κ h (child_of d v)) _ _ (subblocks_rise sound v iv i f d) (λ b p q. ih b (subblock_present sound v iv i f d b q))

-- ---- a present block opens to the same later on
module _ (s : Shape) (m n : Memory) (sound : Sound s m) (later : Later s m n) (κ : Kind) where
  module _ (v i : ℕ) (nv : Node s v) (f : Present s m v (suc i)) where
    before_stays : Same (block s n v i) (block s m v i)
    before_stays = later.stays v i nv (before_written (sound.node v nv) i f)

    at_stays : Same (block s n v (suc i)) (block s m v (suc i))
    at_stays = later.stays v (suc i) nv (inr f)

  pub opened_stays : (h v : ℕ) → Level s h v → (i : ℕ) → Present s m v (suc i) → opened s n.table κ h v (suc i) ≡ opened s m.table κ h v (suc i)
  opened_stays zero v l i f =
      let k = level_leaf s v l in
      let nv : Node s v = rw k.2 (leaf_node s k.0 k.1) in
      rw (opened_leaf s n κ v i, opened_leaf s m κ v i, same_total κ (before_stays v i nv f), same_total κ (at_stays v i nv f))
  opened_stays (suc h) v l i f =
      rw (opened_inner s n κ h v i, opened_inner s m κ h v i)
      (ap₂ ◌++◌ (side onLeft (λ b. opened_stays h _ (level_child s h v l onLeft) b)) (side onRight (λ b. opened_stays h _ (level_child s h v l onRight) b)))
    where
      iv : Inner s v
      iv = level_inner s h v l

      nv : Node s v
      nv = inner_node s v iv

      side : (d : Side) → ((b : ℕ) → Present s m (child_of d v) (suc b) → opened s n.table κ h (child_of d v) (suc b) ≡ opened s m.table κ h (child_of d v) (suc b))
          → opened_on s n κ h v i d ≡ opened_on s m κ h v i d
      side d ih =
          ap₂ (λ (x y : ℕ). flat_map (opened s n.table κ h (child_of d v)) (between x y)) (same_end d (before_stays v i nv f)) (same_end d (at_stays v i nv f))
          ∙ gather_same (opened s n.table κ h (child_of d v)) (opened s m.table κ h (child_of d v)) _ _ (subblocks_rise sound v iv i f d)
          (λ b p q. ih b (subblock_present sound v iv i f d b q))
