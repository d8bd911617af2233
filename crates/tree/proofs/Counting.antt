-- How often an operation is in what the blocks of a node, up to a place, open to.
use Rattle.std.specs.Prelude.{if◌then◌else◌}
use Prim.Native.Nat.{ℕ, zero, suc, ◌+◌, ◌-◌, ◌≤◌, ◌<◌}
use native.Mathlib.Omega.{arith}
use native.Mathlib.Decide.{ℕ_discrete, dec_lt, dec_le}
use mathlib.Core.Path.{◌≡◌, refl, ap, ap₂, sym, ◌∙◌}
use mathlib.Core.Logic.{◌≢◌}
use mathlib.Core.Bool.{Bool, true, false, ◌&&◌, and-true, and-false}
use mathlib.Core.List.{[], ◌∷◌}
use lib.Dec.{eqb, ltb, leb}
use borrow.Author.Tests.{eq-eqb, ne_eqb, lt-ltb, le-ltb, le-leb, lt-leb}
use Rattle.tree.specs.declared.Block.{Block}
use Rattle.tree.specs.declared.Kind.{Kind}
use Rattle.tree.specs.declared.Kind.TheVariants.{Puts, Takes}
use Rattle.tree.specs.Shape.{Shape, processes, parent_of, leaf_of}
use Rattle.tree.specs.Memory.{Memory, block}
use Rattle.tree.specs.Order.{OpId, total, opened}
use Rattle.tree.specs.Standing.{same, times}
use Rattle.tree.proofs.Names.{times_append}
use Rattle.tree.specs.Sides.{Side, onLeft, onRight, child_of, end_of}
use Rattle.tree.proofs.Nodes.{inner_node, leaf_node, leaf_eq, parent_of_child, children_differ}
use Rattle.tree.specs.Clauses.Invariant.{Present, Follows, AddsOne, Sound}
use Rattle.tree.proofs.Sound.{first_zeros, zero_end}
use Rattle.tree.proofs.Ancestors.{ancestor, side_at, child_at}
use Rattle.tree.proofs.Reach.{reach, reach_zero, reach_suc}
use Rattle.tree.proofs.Levels.{Level, level_child, level_inner, level_leaf}
use Rattle.tree.proofs.Opening.{opened_leaf, opened_measure}

-- ---- counting in lists
abbrev pub mark : Bool → ℕ
mark true = 1
mark false = 0

times_if : (x y : OpId) (b : Bool) → times x (if b then y ∷ [] else []) ≡ mark (b && same x y)
unfolding times
times_if x y false = refl
times_if x y true = on (same x y)
  where
    on : (b : Bool) → (if b then 1 else 0) ≡ mark b
    on true = refl
    on false = refl

-- ---- the kind of an operation
-- the leaf's block of operation i of process k adds one of kind κ
unfoldable pub of_kind : Shape → Memory → Kind → ℕ → ℕ → Bool
of_kind s m κ k i = ltb (total κ (block s m (leaf_of s k) (i - 1))) (total κ (block s m (leaf_of s k) i))

module _ (s : Shape) (m : Memory) where
  pub kind_no : (κ : Kind) (k i : ℕ) → total κ (block s m (leaf_of s k) i) ≤ total κ (block s m (leaf_of s k) (i - 1)) → of_kind s m κ k i ≡ false
  unfolding of_kind
  kind_no κ k i l = le-ltb _ _ l

  -- there is no operation 0
  pub kind_zero : (κ : Kind) (k : ℕ) → of_kind s m κ k 0 ≡ false
  kind_zero κ k = kind_no κ k 0 (omega arith)

  one_kind : (x y : Block) → Follows x y → AddsOne x y → mark (ltb (total Puts x) (total Puts y)) + mark (ltb (total Takes x) (total Takes y)) ≡ 1
  unfolding total
  one_kind x y f a = on (dec_lt x.puts y.puts) (dec_lt x.takes y.takes) (f.rises Puts) (f.rises Takes)
    where
      on : Dec (x.puts < y.puts) → Dec (x.takes < y.takes) → x.puts ≤ y.puts → x.takes ≤ y.takes → mark (ltb x.puts y.puts) + mark (ltb x.takes y.takes) ≡ 1
      on (yes p) (yes q) g h = absurd (omega arith)
      on (yes p) (no q) g h = rw (lt-ltb x.puts y.puts p, le-ltb x.takes y.takes (omega arith)) refl
      on (no p) (yes q) g h = rw (le-ltb x.puts y.puts (omega arith), lt-ltb x.takes y.takes q) refl
      on (no p) (no q) g h = absurd (omega arith)

  -- an operation with a block is of one kind
  pub kinds_one : Sound s m → (k : ℕ) → k < processes s → (i : ℕ) → 1 ≤ i → Present s m (leaf_of s k) i → mark (of_kind s m Puts k i) + mark (of_kind s m Takes k i) ≡ 1
  unfolding of_kind
  kinds_one sound k kp zero h f = absurd (omega arith)
  kinds_one sound k kp (suc i) h f =
      let e : suc i - 1 ≡ i = omega arith in
      rw e (one_kind _ _ ((sound.node (leaf_of s k) (leaf_node s k kp)).follows i f) (sound.adds k kp i f))

-- ---- how often operation i of process k is in what the blocks of v up to place b open to, v being of height h
pub held : Shape → Memory → Kind → ℕ → ℕ → ℕ → ℕ → ℕ → ℕ
held s m κ k i zero v b = mark (eqb v (leaf_of s k) && (leb i b && of_kind s m κ k i))
held s m κ k i (suc h) v b =
    held s m κ k i h (child_of onLeft v) (end_of onLeft (block s m v b)) + held s m κ k i h (child_of onRight v) (end_of onRight (block s m v b))

module _ (s : Shape) (m : Memory) (κ : Kind) (k i : ℕ) where
  abbrev op : OpId
  op = record { process = k; serial = i }

  held_leaf : (r b : ℕ) → times op (opened s m.table κ 0 (leaf_of s r) (suc b)) + held s m κ k i 0 (leaf_of s r) b ≡ held s m κ k i 0 (leaf_of s r) (suc b)
  unfolding held same leaf_of of_kind
  held_leaf r b = rw (opened_leaf s m κ (leaf_of s r) b, times_if op (record { process = leaf_of s r - processes s; serial = suc b }) adds) (on (ℕ_discrete r k) (ℕ_discrete i (suc b)))
    where
      adds : Bool
      adds = ltb (total κ (block s m (leaf_of s r) b)) (total κ (block s m (leaf_of s r) (suc b)))

      on : Dec (r ≡ k) → Dec (i ≡ suc b)
          → mark (adds && (eqb k (leaf_of s r - processes s) && eqb i (suc b))) + mark (eqb (leaf_of s r) (leaf_of s k) && (leb i b && of_kind s m κ k i))
          ≡ mark (eqb (leaf_of s r) (leaf_of s k) && (leb i (suc b) && of_kind s m κ k i))
      on (no e) f =
          rw (ne_eqb k (leaf_of s r - processes s) (λ z. e (omega arith)), ne_eqb (leaf_of s r) (leaf_of s k) (λ z. e (omega arith)), and-false adds) refl
      on (yes e) (no f) = rw (ne_eqb i (suc b) f, and-false (eqb k (leaf_of s r - processes s)), and-false adds) (low (dec_le i b))
        where
          low : Dec (i ≤ b)
              → 0 + mark (eqb (leaf_of s r) (leaf_of s k) && (leb i b && of_kind s m κ k i)) ≡ mark (eqb (leaf_of s r) (leaf_of s k) && (leb i (suc b) && of_kind s m κ k i))
          low (yes l) = rw (le-leb i b l, le-leb i (suc b) (omega arith)) (omega arith)
          low (no l) = rw (lt-leb i b (omega arith), lt-leb i (suc b) (omega arith)) (omega arith)
      on (yes e) (yes f) =
          let g : i - 1 ≡ b = omega arith in
          rw (
            e,
            g,
            f,
            eq-eqb k (leaf_of s k - processes s) (omega arith),
            eq-eqb (suc b) (suc b) refl,
            lt-leb (suc b) b (omega arith),
            le-leb (suc b) (suc b) (omega arith),
            eq-eqb (leaf_of s k) (leaf_of s k) refl,
            and-true (ltb (total κ (block s m (leaf_of s k) b)) (total κ (block s m (leaf_of s k) (suc b)))),
          ) (omega arith)

  pub held_opened : Sound s m → (h v : ℕ) → Level s h v → (b : ℕ) → Present s m v (suc b)
      → times op (opened s m.table κ h v (suc b)) + held s m κ k i h v b ≡ held s m κ k i h v (suc b)
  unfolding held times
  held_opened sound =
      opened_measure (times op) refl (times_append op) s m sound κ (held s m κ k i) (λ r rp b f. held_leaf r b) (λ h v l b p. refl)

  -- nothing before the first block
  pub held_start : Sound s m → (h v : ℕ) → Level s h v → held s m κ k i h v 0 ≡ 0
  unfolding held
  held_start sound zero v l = on (ℕ_discrete i 0)
    where
      on : Dec (i ≡ 0) → mark (eqb v (leaf_of s k) && (leb i 0 && of_kind s m κ k i)) ≡ 0
      on (yes e) = rw (e, kind_zero s m κ k, and-false (leb 0 0), and-false (eqb v (leaf_of s k)))
      on (no e) = rw (lt-leb i 0 (omega arith), and-false (eqb v (leaf_of s k)))
  held_start sound (suc h) v l = ap₂ ◌+◌ (side onLeft (held_start sound h _ (level_child s h v l onLeft))) (side onRight (held_start sound h _ (level_child s h v l onRight)))
    where
      side : (d : Side) → held s m κ k i h (child_of d v) 0 ≡ 0 → held s m κ k i h (child_of d v) (end_of d (block s m v 0)) ≡ 0
      side d ih =
          ap (held s m κ k i h (child_of d v)) (ap (end_of d) (first_zeros (sound.node v (inner_node s v (level_inner s h v l)))) ∙ zero_end d) ∙ ih

  -- nothing where the process has no leaf
  pub held_outside : processes s ≤ k → (h v : ℕ) → Level s h v → (b : ℕ) → held s m κ k i h v b ≡ 0
  unfolding held
  held_outside out zero v l b = let r = level_leaf s v l in rw (ne_eqb v (leaf_of s k) (λ e. omega (arith, r.1, leaf_eq s r.0 k (sym r.2 ∙ e))))
  held_outside out (suc h) v l b = ap₂ ◌+◌ (held_outside out h _ (level_child s h v l onLeft) _) (held_outside out h _ (level_child s h v l onRight) _)

  -- nothing off the path from the leaf
  held_off : (h v : ℕ) → v ≢ ancestor s k h → (b : ℕ) → held s m κ k i h v b ≡ 0
  unfolding held
  held_off zero v ne b = rw (ne_eqb v (leaf_of s k) ne)
  held_off (suc h) v ne b = ap₂ ◌+◌ (side onLeft (held_off h (child_of onLeft v))) (side onRight (held_off h (child_of onRight v)))
    where
      side : (d : Side) → (child_of d v ≢ ancestor s k h → (e : ℕ) → held s m κ k i h (child_of d v) e ≡ 0) → held s m κ k i h (child_of d v) (end_of d (block s m v b)) ≡ 0
      side d ih = ih (λ e. ne (sym (parent_of_child d v) ∙ ap parent_of e)) _

  -- so of an inner node on the path only one side counts
  held_side : (d : Side) (h v : ℕ) → child_of d v ≡ ancestor s k h → (b : ℕ) → held s m κ k i (suc h) v b ≡ held s m κ k i h (child_of d v) (end_of d (block s m v b))
  unfolding held
  held_side onLeft h v e b = omega (arith, held_off h (child_of onRight v) (λ f. children_differ v (e ∙ sym f)) (end_of onRight (block s m v b)))
  held_side onRight h v e b = omega (arith, held_off h (child_of onLeft v) (λ f. children_differ v (f ∙ sym e)) (end_of onLeft (block s m v b)))

  -- on the path, the operations that are reached
  pub held_path : (h b : ℕ) → held s m κ k i h (ancestor s k h) b ≡ mark (leb i (reach s m k h b) && of_kind s m κ k i)
  unfolding held
  held_path zero b = rw (eq-eqb (leaf_of s k) (leaf_of s k) refl, reach_zero s m k b)
  held_path (suc h) b =
      let d : Side = side_at s k h in
      let e : ℕ = end_of d (block s m (ancestor s k (suc h)) b) in
      held_side d h (ancestor s k (suc h)) (child_at s k h) b
      ∙ ap (λ (v : ℕ). held s m κ k i h v e) (child_at s k h)
      ∙ held_path h e
      ∙ rw (reach_suc s m k h b)
