-- The memory invariant: what holds of the blocks and heads whatever the order of steps.
use Prim.Native.Nat.{ℕ, zero, suc, ◌+◌, ◌-◌, ◌≤◌, ◌<◌}
use native.Mathlib.Omega.{arith}
use native.Mathlib.Decide.{dec_le, ℕ_discrete}
use native.Mathlib.Nat.{le_refl}
use mathlib.Core.Path.{◌≡◌, refl, ap, ◌∙◌}
use mathlib.Core.Logic.{inl, inr}
use Rattle.tree.specs.declared.Kind.{Kind}
use Rattle.tree.specs.declared.Kind.TheVariants.{Puts, Takes}
use Rattle.tree.specs.Shape.{Shape, processes, leaf_of}
use Rattle.tree.specs.Memory.{Memory, head_of, block}
use Rattle.tree.specs.Order.{total}
use Rattle.tree.specs.Sides.{Side, onLeft, onRight, child_of, end_of}
use Rattle.tree.specs.Clauses.Invariant.{Node, Inner, count, Present, Written, zeros, NodeSound, Sound}
use Rattle.tree.proofs.Nodes.{child_node, inner_node, leaf_node}

-- ---- places of a node
module _ {s : Shape} {m : Memory} {v : ℕ} (n : NodeSound s m v) where
  pub below_head : (i : ℕ) → i < head_of m v → Written s m v i
  below_head zero h = inl refl
  below_head (suc i) h = inr (n.filled (suc i) (omega arith) h)

  pub present_low : (i : ℕ) → Present s m v i → i ≤ head_of m v
  present_low i f = on (dec_le i (head_of m v))
    where
      on : Dec (i ≤ head_of m v) → i ≤ head_of m v
      on (yes l) = l
      on (no l) = absurd (omega (arith, n.empty i (omega arith)))

  pub written_low : (i : ℕ) → Written s m v i → i ≤ head_of m v
  written_low i (inl e) = omega arith
  written_low i (inr f) = present_low i f

  pub before_written : (i : ℕ) → Present s m v (suc i) → Written s m v i
  before_written i f = below_head i (present_low (suc i) f)

  -- a present place has as many operations as its number, at least
  pub place_count : (i : ℕ) → Written s m v i → i ≤ count (block s m v i)
  place_count zero p = omega arith
  place_count (suc i) (inl e) = absurd (omega arith)
  place_count (suc i) (inr f) = omega (arith, place_count i (before_written i f), (n.follows i f).more)

  pub first_zeros : block s m v 0 ≡ zeros
  first_zeros = n.clear 0 n.first

  -- totals between two places
  pub totals_rise : (κ : Kind) (i j : ℕ) → i ≤ j → Written s m v j → total κ (block s m v i) ≤ total κ (block s m v j)
  totals_rise κ i zero h p = let e : i ≡ 0 = omega arith in rw e (le_refl _)
  totals_rise κ i (suc j) h (inl e) = absurd (omega arith)
  totals_rise κ i (suc j) h (inr f) = on (ℕ_discrete i (suc j)) (λ l. totals_rise κ i j l (before_written j f))
    where
      on : Dec (i ≡ suc j) → (i ≤ j → total κ (block s m v i) ≤ total κ (block s m v j)) → total κ (block s m v i) ≤ total κ (block s m v (suc j))
      on (yes e) ih = rw e (le_refl _)
      on (no e) ih = omega (arith, ih (omega arith), (n.follows j f).rises κ)

  pub counts_rise : (i j : ℕ) → i ≤ j → Written s m v j → count (block s m v i) + (j - i) ≤ count (block s m v j)
  counts_rise i zero h p = let e : i ≡ 0 = omega arith in rw e (omega arith)
  counts_rise i (suc j) h (inl e) = absurd (omega arith)
  counts_rise i (suc j) h (inr f) = on (ℕ_discrete i (suc j)) (λ l. counts_rise i j l (before_written j f))
    where
      on : Dec (i ≡ suc j) → (i ≤ j → count (block s m v i) + (j - i) ≤ count (block s m v j)) → count (block s m v i) + (suc j - i) ≤ count (block s m v (suc j))
      on (yes e) ih = rw e (omega arith)
      on (no e) ih = omega (arith, ih (omega arith), (n.follows j f).more)

pub zero_total : (κ : Kind) → total κ zeros ≡ 0
unfolding total zeros
zero_total Puts = refl
zero_total Takes = refl

pub zero_end : (d : Side) → end_of d zeros ≡ 0
unfolding zeros
zero_end onLeft = refl
zero_end onRight = refl

module _ {s : Shape} {m : Memory} (sound : Sound s m) where
  -- the totals of a place of an inner node are the sums at its ends, place 0 included
  pub sums_at : (v : ℕ) → Inner s v → (i : ℕ) → Written s m v i → (κ : Kind)
      → total κ (block s m v i) ≡ total κ (block s m (child_of onLeft v) (block s m v i).left) + total κ (block s m (child_of onRight v) (block s m v i).right)
  sums_at v iv zero p κ = omega (arith, none v (inner_node s v iv), at onLeft, at onRight)
    where
      none : (u : ℕ) → Node s u → total κ (block s m u 0) ≡ 0
      none u nu = ap (total κ) (first_zeros (sound.node u nu)) ∙ zero_total κ

      at : (d : Side) → total κ (block s m (child_of d v) (end_of d (block s m v 0))) ≡ 0
      at d =
          ap (λ (e : ℕ). total κ (block s m (child_of d v) e)) (ap (end_of d) (first_zeros (sound.node v (inner_node s v iv))) ∙ zero_end d)
          ∙ none (child_of d v) (child_node s d v iv)
  sums_at v iv (suc i) (inl e) κ = absurd (omega arith)
  sums_at v iv (suc i) (inr f) κ = (sound.joins v iv i f).sums κ

  -- ends are below the child's head, and rise with the place
  pub end_below : (d : Side) (v : ℕ) → Inner s v → (i : ℕ) → Written s m v i → end_of d (block s m v i) < head_of m (child_of d v)
  end_below d v iv zero p = rw (first_zeros (sound.node v (inner_node s v iv)), zero_end d) (sound.node (child_of d v) (child_node s d v iv)).head
  end_below d v iv (suc i) (inl e) = absurd (omega arith)
  end_below d v iv (suc i) (inr f) = (sound.joins v iv i f).below d

  pub ends_rise : (d : Side) (v : ℕ) → Inner s v → (i j : ℕ) → i ≤ j → Written s m v j → end_of d (block s m v i) ≤ end_of d (block s m v j)
  ends_rise d v iv i zero h p = let e : i ≡ 0 = omega arith in rw e (le_refl _)
  ends_rise d v iv i (suc j) h (inl e) = absurd (omega arith)
  ends_rise d v iv i (suc j) h (inr f) = on (ℕ_discrete i (suc j)) (λ l. ends_rise d v iv i j l (before_written (sound.node v (inner_node s v iv)) j f))
    where
      on : Dec (i ≡ suc j) → (i ≤ j → end_of d (block s m v i) ≤ end_of d (block s m v j)) → end_of d (block s m v i) ≤ end_of d (block s m v (suc j))
      on (yes e) ih = rw e (le_refl _)
      on (no e) ih = omega (arith, ih (omega arith), (sound.joins v iv j f).rises d)

  -- a leaf's place is the number of operations up to it
  pub leaf_count : (k : ℕ) → k < processes s → (i : ℕ) → Written s m (leaf_of s k) i → count (block s m (leaf_of s k) i) ≡ i
  leaf_count k kp zero p = (sound.node (leaf_of s k) (leaf_node s k kp)).first
  leaf_count k kp (suc i) (inl e) = absurd (omega arith)
  leaf_count k kp (suc i) (inr f) =
      omega (arith, leaf_count k kp i (before_written (sound.node (leaf_of s k) (leaf_node s k kp)) i f), (sound.adds k kp i f).one)
