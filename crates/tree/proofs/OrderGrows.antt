-- The root order only grows: what stands in it stays, in its block, and new root blocks come at the end.
use Prim.Native.Nat.{ℕ, suc, ◌+◌, ◌≤◌, ◌<◌}
use native.Mathlib.Omega.{arith}
use native.Mathlib.Nat.{le_refl}
use mathlib.Core.Path.{◌≡◌, ap, ap₂, sym, ◌∙◌}
use mathlib.Core.Logic.{inl, inr}
use mathlib.Core.Bool.{Bool}
use mathlib.Core.List.{◌++◌, map, flat_map}
use lib.Dec.{ltb}
use Rattle.base.specs.Between.{between}
use Rattle.base.proofs.Gather.{between_split, gather_split, gather_same}
use Rattle.tree.specs.declared.Kind.{Kind}
use Rattle.tree.specs.declared.Kind.TheVariants.{Puts, Takes}
use Rattle.tree.specs.Shape.{Shape, processes, root}
use Rattle.tree.specs.Memory.{Memory}
use Rattle.tree.specs.Order.{OpId, in_root, last_root, placed, block_order, root_order, root_operations}
use Rattle.tree.specs.Standing.{times, stands_in, first_of, root_block_of}
use Rattle.tree.specs.Clauses.Invariant.{Written, Sound}
use Rattle.tree.proofs.Later.{Later, later_present, reach_later}
use Rattle.tree.proofs.Levels.{level_root}
use Rattle.tree.proofs.Opening.{opened_stays}
use Rattle.tree.proofs.LastRoot.{node_root, last_written, last_most, root_present, root_written}
use Rattle.tree.proofs.Reached.{reached, reached_rises, ancestor_top}
use Rattle.tree.proofs.RootBlock.{first_append, first_same, root_block_lem}

module _ (s : Shape) (m n : Memory) (sm : Sound s m) (sn : Sound s n) (later : Later s m n) where
  abbrev old : ℕ
  old = last_root s m.table

  pub last_grows : last_root s m.table ≤ last_root s n.table
  last_grows = on (last_written s m sm)
    where
      on : Written s m root old → old ≤ last_root s n.table
      on (inl e) = omega arith
      on (inr f) = last_most s n sn old (later_present later root old (node_root s) f)

  -- ---- blocks up to the last old one
  pub in_root-stays : (κ : Kind) (b : ℕ) → b < last_root s m.table → in_root s n.table κ (suc b) ≡ in_root s m.table κ (suc b)
  unfolding in_root
  in_root-stays κ b l = opened_stays s m n sm later κ s.height root (level_root s) b (root_present s m sm b l)

  pub block_order-stays : (b : ℕ) → b < last_root s m.table → block_order s n.table (suc b) ≡ block_order s m.table (suc b)
  unfolding block_order
  block_order-stays b l = ap₂ (λ p q. map (placed Puts (suc b)) p ++ map (placed Takes (suc b)) q) (in_root-stays Puts b l) (in_root-stays Takes b l)

  pub stands_in-stays : (x : OpId) (b : ℕ) → b < last_root s m.table → stands_in s n.table x (suc b) ≡ stands_in s m.table x (suc b)
  unfolding stands_in
  stands_in-stays x b l = ap₂ (λ p q. times x p + times x q) (in_root-stays Puts b l) (in_root-stays Takes b l)

  -- ---- the whole order
  pub order_grows : root_order s n.table ≡ root_order s m.table ++ flat_map (block_order s n.table) (between (last_root s m.table) (last_root s n.table))
  unfolding root_order
  order_grows =
      gather_split (block_order s n.table) 0 old (last_root s n.table) (omega arith) last_grows
      ∙ ap (λ l. l ++ flat_map (block_order s n.table) (between old (last_root s n.table)))
      (gather_same (block_order s n.table) (block_order s m.table) 0 old (omega arith) (λ b p q. block_order-stays b q))

  pub root_block_grows : (x : OpId) → 1 ≤ times x (root_operations s m.table) → root_block_of s n.table x ≡ root_block_of s m.table x
  unfolding root_block_of
  root_block_grows x h =
      let r = root_block_lem s m.table x h in
      let f : ℕ → Bool = λ b. ltb 0 (stands_in s n.table x b) in
      let e : first_of f (between 0 old) ≡ root_block_of s m.table x =
      first_same f (λ b. ltb 0 (stands_in s m.table x b)) 0 old (omega arith) (λ b p q. ap (ltb 0) (stands_in-stays x b q)) in
      ap (first_of f) (between_split 0 old (last_root s n.table) (omega arith) last_grows)
      ∙ first_append f (between 0 old) (between old (last_root s n.table)) r.past (e ∙ r.is)
      ∙ sym r.is

  -- ---- what the root reaches
  pub reached_stays : (k : ℕ) → k < processes s → (b : ℕ) → b ≤ last_root s m.table → reached s n k b ≡ reached s m k b
  reached_stays k kp b l = reach_later later sm k kp s.height (le_refl _) b (rw (ancestor_top s k kp) (root_written s m sm b l))

  pub reached_grows : (k : ℕ) → k < processes s → reached s m k (last_root s m.table) ≤ reached s n k (last_root s n.table)
  reached_grows k kp =
      omega (arith, reached_stays k kp old (le_refl _), reached_rises s n sn k kp old (last_root s n.table) last_grows (last_written s n sn))
