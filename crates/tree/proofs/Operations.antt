-- The operations in root order, counted: of each root block the puts and the takes.
use Prim.Native.Nat.{ℕ, ◌+◌}
use native.Mathlib.Omega.{arith}
use mathlib.Core.Path.{◌≡◌, refl, ap, ap₂, ◌∙◌}
use mathlib.Core.List.{List, [], ◌∷◌, ◌++◌, map, flat_map, map-append}
use Rattle.base.specs.Between.{between}
use Rattle.tree.specs.declared.Kind.{Kind}
use Rattle.tree.specs.declared.Kind.TheVariants.{Puts, Takes}
use Rattle.tree.specs.Shape.{Shape}
use Rattle.tree.specs.Order.{OpId, in_root, last_root, Placed, placed, block_order, root_order, root_operations}
use Rattle.tree.specs.Standing.{times, stands_in}
use Rattle.tree.proofs.Names.{times_append}

-- the operations of a list of placed ones
abbrev pub ops_of : List Placed → List OpId
ops_of xs = map (λ (y : Placed). y.op) xs

pub ops_append : (xs ys : List Placed) → ops_of (xs ++ ys) ≡ ops_of xs ++ ops_of ys
ops_append xs ys = map-append (λ (y : Placed). y.op) xs ys

pub ops_placed : (κ : Kind) (b : ℕ) (xs : List OpId) → ops_of (map (placed κ b) xs) ≡ xs
unfolding placed
ops_placed κ b [] = refl
ops_placed κ b (x ∷ xs) = ap (λ l. x ∷ l) (ops_placed κ b xs)

module _ (s : Shape) (t : List ℕ) where
  pub block_operations : (b : ℕ) → ops_of (block_order s t b) ≡ in_root s t Puts b ++ in_root s t Takes b
  unfolding block_order
  block_operations b =
      ops_append (map (placed Puts b) (in_root s t Puts b)) (map (placed Takes b) (in_root s t Takes b))
      ∙ ap₂ ◌++◌ (ops_placed Puts b (in_root s t Puts b)) (ops_placed Takes b (in_root s t Takes b))

  module _ (x : OpId) where
    pub block_times : (b : ℕ) → times x (ops_of (block_order s t b)) ≡ stands_in s t x b
    unfolding stands_in
    block_times b = ap (times x) (block_operations b) ∙ times_append x (in_root s t Puts b) (in_root s t Takes b)

    -- over any root blocks, both kinds together
    pub order_times : (l : List ℕ) → times x (ops_of (flat_map (block_order s t) l)) ≡ times x (flat_map (in_root s t Puts) l) + times x (flat_map (in_root s t Takes) l)
    unfolding flat_map times stands_in
    order_times [] = refl
    order_times (b ∷ l) =
        ap (times x) (ops_append (block_order s t b) (flat_map (block_order s t) l))
        ∙ times_append x (ops_of (block_order s t b)) (ops_of (flat_map (block_order s t) l))
        ∙ omega (
          arith,
          block_times b,
          order_times l,
          times_append x (in_root s t Puts b) (flat_map (in_root s t Puts) l),
          times_append x (in_root s t Takes b) (flat_map (in_root s t Takes) l),
        )

    pub root_times : times x (root_operations s t) ≡ times x (flat_map (in_root s t Puts) (between 0 (last_root s t))) + times x (flat_map (in_root s t Takes) (between 0 (last_root s t)))
    unfolding root_operations root_order
    root_times = order_times (between 0 (last_root s t))
