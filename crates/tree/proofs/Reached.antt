-- How many operations of a process the root's blocks up to a place hold.
use Prim.Native.Nat.{ℕ, zero, suc, ◌≤◌, ◌<◌}
use native.Mathlib.Omega.{arith}
use native.Mathlib.Nat.{le_refl}
use mathlib.Core.Path.{◌≡◌, refl, sym, subst}
use Rattle.tree.specs.Shape.{Shape, processes, root, leaf_of}
use Rattle.tree.specs.Memory.{Memory, head_of}
use Rattle.tree.proofs.Nodes.{leaf_node}
use Rattle.tree.specs.Clauses.Invariant.{Present, Written, Sound}
use Rattle.tree.proofs.Ancestors.{ancestor, ancestor_root}
use Rattle.tree.proofs.Reach.{reach, reach_rises, reach_below}

-- the highest node above a leaf is the root
pub ancestor_top : (s : Shape) (k : ℕ) → k < processes s → ancestor s k s.height ≡ root
unfolding root
ancestor_top s k kp = ancestor_root s k kp

-- how many operations of process k the root blocks up to b hold
abbrev pub reached : Shape → Memory → ℕ → ℕ → ℕ
reached s m k b = reach s m k s.height b

module _ (s : Shape) (m : Memory) (sound : Sound s m) where
  pub reached_rises : (k : ℕ) → k < processes s → (i j : ℕ) → i ≤ j → Written s m root j → reached s m k i ≤ reached s m k j
  reached_rises k kp i j l p = reach_rises s m sound k kp s.height (le_refl _) i j l (rw (ancestor_top s k kp) p)

  pub reached_low : 1 ≤ s.height → (k : ℕ) → k < processes s → (b : ℕ) → Written s m root b → reached s m k b < head_of m (leaf_of s k)
  reached_low tall k kp b p = on s.height refl
    where
      on : (H : ℕ) → s.height ≡ H → reach s m k H b < head_of m (leaf_of s k)
      on zero e = absurd (omega arith)
      on (suc j) e = reach_below s m sound k kp j (omega arith) b (subst (λ (v : ℕ). Written s m v b) (sym (subst (λ (h : ℕ). ancestor s k h ≡ root) e (ancestor_top s k kp))) p)

  -- an operation that the root reaches has its block in its leaf
  pub reached_present : 1 ≤ s.height → (k : ℕ) → k < processes s → (b : ℕ) → Written s m root b → (i : ℕ) → 1 ≤ i → i ≤ reached s m k b → Present s m (leaf_of s k) i
  reached_present tall k kp b p i f l = (sound.node (leaf_of s k) (leaf_node s k kp)).filled i f (omega (arith, reached_low tall k kp b p))
