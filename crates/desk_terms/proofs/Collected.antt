-- The terms of the first orders, and those of one order more.
use Prim.Native.Nat.{ℕ, ◌+◌, ◌≤◌, ◌<◌}
use native.Mathlib.Omega.{arith}
use native.Mathlib.Numerals.{add-one}
use mathlib.Core.Path.{◌≡◌, refl, ap, sym, ◌∙◌}
use mathlib.Core.Bool.{true, false}
use mathlib.Core.List.{List, [], ◌∷◌, ◌++◌, map, flat_map, append-nil}
use lib.ListN.{length, get_or, take, set, length-map, get_or-map}
use lib.Seq.{take_all, take-suc, take-suc-set}
use Rattle.base.proofs.Gather.{flat_map-append}
use Rattle.record.specs.declared.OrderRecord.{OrderRecord}
use Rattle.record.specs.ReadOrders.{read_order}
use Rattle.desk_rules.specs.Entries.{is_entry, term_of}
use Rattle.desk_terms.specs.Clauses.Slots.{slot_of, term_at, collected}

-- the first `count` terms are those of the first i orders, which are read from their bytes
pub record CollectedFirst (l : ℕ) (order : List (List ℕ)) (received terms : List ℕ) (count i : ℕ) : Type 0 where
  pub within : i ≤ length order
  pub fewer : count ≤ i
  pub passed : take count terms ≡ collected l received (take i (map read_order order))

module _ (l : ℕ) (order : List (List ℕ)) (received terms : List ℕ) where
  pub collected_none : CollectedFirst l order received terms 0 0
  unfolding collected flat_map
  collected_none = record { within = omega arith; fewer = omega arith; passed = refl }

  module _ (count i : ℕ) (so_far : CollectedFirst l order received terms count i) where
    pub collected_all : length order ≤ i → take count terms ≡ collected l received (map read_order order)
    collected_all h = so_far.passed ∙ ap (collected l received) (take_all i (map read_order order) (omega (arith, length-map order read_order)))

    -- the next order, and its slot
    module _ (more : i < length order) (d : List ℕ) (x : OrderRecord) (is : x ≡ read_order (get_or order i d)) (slot : ℕ) (at : slot ≡ slot_of l x.process x.serial) where
      next : take count terms ++ term_at received slot ≡ collected l received (take (i + 1) (map read_order order))
      unfolding collected flat_map
      next =
          let term : OrderRecord → List ℕ = λ y. term_at received (slot_of l y.process y.serial) in
          let xs : List OrderRecord = map read_order order in
          rw (add-one i, take-suc xs i (read_order d) (omega (arith, length-map order read_order)), get_or-map read_order order i d, ← is)
          (sym (flat_map-append term (take i xs) (x ∷ []) ∙ rw (append-nil (term x), so_far.passed, at)))

      pub collected_entry : count < length terms → is_entry (get_or received slot 0) ≡ true
          → CollectedFirst l order received (set terms count (term_of (get_or received slot 0))) (count + 1) (i + 1)
      unfolding term_at
      collected_entry room e =
          record {
            within = omega arith;
            fewer = omega (arith, so_far.fewer);
            passed = rw (add-one count, take-suc-set terms count _ room) (rw e at next);
          }

      pub collected_other : is_entry (get_or received slot 0) ≡ false → CollectedFirst l order received terms count (i + 1)
      unfolding term_at
      collected_other e = record { within = omega arith; fewer = omega (arith, so_far.fewer); passed = rw (e, append-nil) at next }
