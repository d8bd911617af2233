-- Each operation that the root reaches stands in the root order once, in the block that reaches it first, and no other
-- stands there.
use Prim.Native.Nat.{ℕ, zero, suc, ◌+◌, ◌-◌, ◌≤◌, ◌<◌}
use native.Mathlib.Omega.{arith}
use native.Mathlib.Nat.{le_refl}
use native.Mathlib.Decide.{ℕ_discrete, dec_lt, dec_le}
use mathlib.Core.Path.{◌≡◌, refl, ap, sym, ◌∙◌}
use mathlib.Core.Bool.{false, ◌&&◌, and-false}
use mathlib.Core.List.{List, flat_map}
use lib.Dec.{leb}
use borrow.Author.Tests.{le-leb, lt-leb}
use Rattle.base.specs.Between.{between}
use Rattle.base.proofs.Gather.{gather_measure}
use Rattle.tree.specs.declared.Kind.{Kind}
use Rattle.tree.specs.declared.Kind.TheVariants.{Puts, Takes}
use Rattle.tree.specs.Shape.{Shape, processes, root, leaf_of}
use Rattle.tree.specs.Memory.{Memory}
use Rattle.tree.specs.Order.{OpId, in_root, last_root, root_operations}
use Rattle.tree.specs.Standing.{times, stands_in}
use Rattle.tree.specs.Clauses.Invariant.{Present, Sound}
use Rattle.tree.proofs.Levels.{level_root}
use Rattle.tree.proofs.Opening.{opened_zero}
use Rattle.tree.proofs.Names.{times_append}
use Rattle.tree.proofs.Counting.{mark, of_kind, kind_zero, kinds_one, held, held_opened, held_start, held_outside, held_path}
use Rattle.tree.proofs.LastRoot.{last_written, root_present, root_written}
use Rattle.tree.proofs.Operations.{root_times}
use Rattle.tree.proofs.Reached.{reached, ancestor_top, reached_rises, reached_present}

-- x is an operation that the root reaches
pub record Found (s : Shape) (m : Memory) (x : OpId) : Type 0 where
  pub process : x.process < processes s
  pub first : 1 ≤ x.serial
  pub last : x.serial ≤ reached s m x.process (last_root s m.table)

-- root block b is the first that reaches x
pub record InBlock (s : Shape) (m : Memory) (x : OpId) (b : ℕ) : Type 0 where
  pub place : 1 ≤ b
  pub process : x.process < processes s
  pub past : reached s m x.process (b - 1) < x.serial
  pub upto : x.serial ≤ reached s m x.process b

module _ (s : Shape) (m : Memory) (sound : Sound s m) where
  abbrev t : List ℕ
  t = m.table

  -- ---- one kind
  module _ (κ : Kind) (x : OpId) where
    abbrev held_to : ℕ → ℕ
    held_to b = held s m κ x.process x.serial s.height root b

    block_held : (b : ℕ) → b < last_root s t → times x (in_root s t κ (suc b)) + held_to b ≡ held_to (suc b)
    unfolding in_root
    block_held b l = held_opened s m κ x.process x.serial sound s.height root (level_root s) b (root_present s m sound b l)

    roots_held : (b : ℕ) → b ≤ last_root s t → times x (flat_map (in_root s t κ) (between 0 b)) ≡ held_to b
    unfolding times
    roots_held b l =
        omega (
          arith,
          gather_measure (times x) refl (times_append x) (in_root s t κ) held_to 0 b (omega arith) (λ j p q. block_held j (omega arith)),
          held_start s m κ x.process x.serial sound s.height root (level_root s),
        )

    held_reached : x.process < processes s → (b : ℕ) → held_to b ≡ mark (leb x.serial (reached s m x.process b) && of_kind s m κ x.process x.serial)
    held_reached kp b =
        ap (λ (v : ℕ). held s m κ x.process x.serial s.height v b) (sym (ancestor_top s x.process kp))
        ∙ held_path s m κ x.process x.serial s.height b

    held_nowhere : processes s ≤ x.process → (b : ℕ) → held_to b ≡ 0
    held_nowhere out b = held_outside s m κ x.process x.serial out s.height root (level_root s) b

    held_yes : x.process < processes s → (b : ℕ) → x.serial ≤ reached s m x.process b → held_to b ≡ mark (of_kind s m κ x.process x.serial)
    held_yes kp b l = held_reached kp b ∙ rw (le-leb x.serial (reached s m x.process b) l)

    held_no : x.process < processes s → (b : ℕ) → reached s m x.process b < x.serial → held_to b ≡ 0
    held_no kp b l = held_reached kp b ∙ rw (lt-leb x.serial (reached s m x.process b) l)

    held_other : x.process < processes s → (b : ℕ) → of_kind s m κ x.process x.serial ≡ false → held_to b ≡ 0
    held_other kp b e = held_reached kp b ∙ rw (e, and-false (leb x.serial (reached s m x.process b)))

    -- x is among the operations of the kind in the first root blocks if it is of the kind and they reach it
    pub kind_count : x.process < processes s → (b : ℕ) → b ≤ last_root s t
        → times x (flat_map (in_root s t κ) (between 0 b)) ≡ mark (leb x.serial (reached s m x.process b) && of_kind s m κ x.process x.serial)
    kind_count kp b l = roots_held b l ∙ held_reached kp b

  -- ---- both kinds
  module _ (x : OpId) where
    times_held : times x (root_operations s t) ≡ held_to Puts x (last_root s t) + held_to Takes x (last_root s t)
    times_held = omega (arith, root_times s t x, roots_held Puts x (last_root s t) (le_refl _), roots_held Takes x (last_root s t) (le_refl _))

    pub stands_once : 1 ≤ s.height → x.process < processes s → 1 ≤ x.serial → x.serial ≤ reached s m x.process (last_root s t) → times x (root_operations s t) ≡ 1
    stands_once tall kp f l =
        let has : Present s m (leaf_of s x.process) x.serial = reached_present s m sound tall x.process kp (last_root s t) (last_written s m sound) x.serial f l in
        omega (
          arith,
          times_held,
          held_yes Puts x kp (last_root s t) l,
          held_yes Takes x kp (last_root s t) l,
          kinds_one s m sound x.process kp x.serial f has,
        )

    pub stands_found : 1 ≤ times x (root_operations s t) → Found s m x
    stands_found l = on (dec_lt x.process (processes s)) (ℕ_discrete x.serial 0) (dec_le x.serial (reached s m x.process (last_root s t)))
      where
        no_none : ((κ : Kind) → held_to κ x (last_root s t) ≡ 0) → ⊥
        no_none none = omega (arith, times_held, none Puts, none Takes)

        on : Dec (x.process < processes s) → Dec (x.serial ≡ 0) → Dec (x.serial ≤ reached s m x.process (last_root s t)) → Found s m x
        on (no out) q r = absurd (no_none (λ κ. held_nowhere κ x (omega arith) (last_root s t)))
        on (yes kp) (yes q) r = absurd (no_none (λ κ. held_other κ x kp (last_root s t) (ap (of_kind s m κ x.process) q ∙ kind_zero s m κ x.process)))
        on (yes kp) (no q) (no r) = absurd (no_none (λ κ. held_no κ x kp (last_root s t) (omega arith)))
        on (yes kp) (no q) (yes r) = record { process = kp; first = omega arith; last = r }

    pub stands_most : 1 ≤ s.height → times x (root_operations s t) ≤ 1
    stands_most tall = on (dec_le 1 (times x (root_operations s t)))
      where
        on : Dec (1 ≤ times x (root_operations s t)) → times x (root_operations s t) ≤ 1
        on (no l) = omega arith
        on (yes l) = let f = stands_found l in omega (arith, stands_once tall f.process f.first f.last)

  pub in_block : (x : OpId) (b : ℕ) → b ≤ last_root s t → 1 ≤ stands_in s t x b → InBlock s m x b
  unfolding stands_in in_root times
  in_block x zero l h = absurd (omega (arith, ap (times x) (opened_zero s m Puts s.height root), ap (times x) (opened_zero s m Takes s.height root)))
  in_block x (suc b) l h = on (dec_lt x.process (processes s)) (dec_le x.serial (reached s m x.process b)) (dec_le x.serial (reached s m x.process (suc b)))
    where
      -- if the blocks up to this one hold x no more often than those before it, x does not stand in it
      no_none : ((κ : Kind) → held_to κ x (suc b) ≤ held_to κ x b) → ⊥
      no_none same = omega (arith, block_held Puts x b l, block_held Takes x b l, same Puts, same Takes)

      on : Dec (x.process < processes s) → Dec (x.serial ≤ reached s m x.process b) → Dec (x.serial ≤ reached s m x.process (suc b)) → InBlock s m x (suc b)
      on (no out) q r = absurd (no_none (λ κ. omega (arith, held_nowhere κ x (omega arith) (suc b))))
      on (yes kp) (yes q) r =
          let r : x.serial ≤ reached s m x.process (suc b) = omega (arith, reached_rises s m sound x.process kp b (suc b) (omega arith) (root_written s m sound (suc b) l)) in
          absurd (no_none (λ κ. omega (arith, held_yes κ x kp b q, held_yes κ x kp (suc b) r)))
      on (yes kp) (no q) (no r) = absurd (no_none (λ κ. omega (arith, held_no κ x kp (suc b) (omega arith))))
      on (yes kp) (no q) (yes r) =
          let e : suc b - 1 ≡ b = omega arith in
          record { place = omega arith; process = kp; past = rw e (omega arith); upto = r }
