-- An operation is in what a block opens to once at most, whatever the node.
use Prim.Native.Nat.{ℕ, zero, suc, ◌-◌, ◌≤◌}
use native.Mathlib.Omega.{arith}
use native.Mathlib.Decide.{ℕ_discrete}
use mathlib.Core.Path.{◌≡◌, refl, ap, sym, ◌∙◌}
use mathlib.Core.Logic.{◌≢◌}
use mathlib.Core.Bool.{Bool, true, false, ◌&&◌}
use mathlib.Core.List.{List}
use lib.Dec.{ltb, leb}
use Rattle.base.proofs.Cases.{cases}
use Rattle.base.proofs.Gather.{gather_measure}
use Rattle.tree.specs.declared.Kind.{Kind}
use Rattle.tree.specs.Shape.{Shape, processes, parent_of, leaf_of}
use Rattle.tree.specs.Memory.{Memory, block}
use Rattle.tree.specs.Order.{OpId, total, opened}
use Rattle.tree.specs.Standing.{times}
use Rattle.tree.proofs.Names.{other_process, times_append}
use Rattle.tree.specs.Sides.{Side, onLeft, onRight, child_of}
use Rattle.tree.specs.Clauses.Invariant.{Inner, Present, Sound}
use Rattle.tree.proofs.Nodes.{parent_of_child}
use Rattle.tree.proofs.Ancestors.{ancestor}
use Rattle.tree.proofs.Reach.{reach}
use Rattle.tree.proofs.Levels.{Level, level_child, level_inner, level_leaf}
use Rattle.tree.proofs.Opening.{opened_on, opened_leaf, opened_inner, subblocks_rise, subblock_present}
use Rattle.tree.proofs.Counting.{mark, of_kind, held, held_opened, held_path}

mark_most : (b : Bool) → mark b ≤ 1
mark_most true = omega arith
mark_most false = omega arith

module _ (s : Shape) (m : Memory) (sound : Sound s m) (κ : Kind) (x : OpId) where
  -- not at all off the path from its process's leaf
  off_leaf : (v : ℕ) → Level s 0 v → v ≢ leaf_of s x.process → (b : ℕ) → times x (opened s m.table κ 0 v (suc b)) ≡ 0
  unfolding times leaf_of
  off_leaf v l ne b =
      let k = level_leaf s v l in
      rw (opened_leaf s m κ v b)
      (cases (λ (ys : List OpId). times x ys ≡ 0) (ltb (total κ (block s m v b)) (total κ (block s m v (suc b))))
      (λ e. rw (other_process x (record { process = v - processes s; serial = suc b }) (λ z. ne (omega (arith, k.2))))) (λ e. refl))

  off_side : (h v : ℕ) → Inner s v → (b : ℕ) → Present s m v (suc b) → (d : Side)
      → ((c : ℕ) → Present s m (child_of d v) (suc c) → times x (opened s m.table κ h (child_of d v) (suc c)) ≡ 0) → times x (opened_on s m κ h v b d) ≡ 0
  unfolding times
  off_side h v iv b f d none =
      omega (
        arith,
        gather_measure (times x) refl (times_append x) (opened s m.table κ h (child_of d v)) (λ c. 0) _ _ (subblocks_rise sound v iv b f d)
            (λ c p q. omega (arith, none c (subblock_present sound v iv b f d c q))),
      )

  off_path : (h v : ℕ) → Level s h v → v ≢ ancestor s x.process h → (b : ℕ) → Present s m v (suc b) → times x (opened s m.table κ h v (suc b)) ≡ 0
  off_path zero v l ne b f = off_leaf v l ne b
  off_path (suc h) v l ne b f =
      ap (times x) (opened_inner s m κ h v b)
      ∙ omega (
        arith,
        times_append x (opened_on s m κ h v b onLeft) (opened_on s m κ h v b onRight),
        side onLeft (off_path h _ (level_child s h v l onLeft)),
        side onRight (off_path h _ (level_child s h v l onRight)),
      )
    where
      side : (d : Side)
          → (child_of d v ≢ ancestor s x.process h → (c : ℕ) → Present s m (child_of d v) (suc c) → times x (opened s m.table κ h (child_of d v) (suc c)) ≡ 0)
          → times x (opened_on s m κ h v b d) ≡ 0
      side d ih = off_side h v (level_inner s h v l) b f d (ih (λ e. ne (sym (parent_of_child d v) ∙ ap parent_of e)))

  pub opened_once : (h v : ℕ) → Level s h v → (b : ℕ) → Present s m v (suc b) → times x (opened s m.table κ h v (suc b)) ≤ 1
  opened_once h v l b f = on (ℕ_discrete v (ancestor s x.process h))
    where
      on : Dec (v ≡ ancestor s x.process h) → times x (opened s m.table κ h v (suc b)) ≤ 1
      on (no ne) = omega (arith, off_path h v l ne b f)
      on (yes e) =
          omega (
            arith,
            held_opened s m κ x.process x.serial sound h v l b f,
            ap (λ (u : ℕ). held s m κ x.process x.serial h u (suc b)) e ∙ held_path s m κ x.process x.serial h (suc b),
            mark_most (leb x.serial (reach s m x.process h (suc b)) && of_kind s m κ x.process x.serial),
          )
