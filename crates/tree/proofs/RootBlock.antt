-- The root block of an operation: the first that it stands in, and the only one.
use Rattle.std.specs.Prelude.{if◌then◌else◌}
use Prim.Native.Nat.{ℕ, zero, suc, ◌+◌, ◌-◌, ◌≤◌, ◌<◌}
use native.Mathlib.Omega.{arith}
use native.Mathlib.Nat.{le_refl}
use native.Mathlib.Decide.{dec_le}
use mathlib.Core.Path.{◌≡◌, refl, ap, ◌∙◌}
use mathlib.Core.Bool.{Bool, true, false}
use mathlib.Core.List.{List, [], ◌∷◌, ◌++◌, flat_map}
use lib.Dec.{ltb}
use borrow.Author.Tests.{lt-ltb, le-ltb}
use Rattle.base.specs.Between.{between}
use Rattle.base.proofs.Gather.{between_all, gather_none, gather_first, gather_at}
use Rattle.tree.specs.declared.Kind.{Kind}
use Rattle.tree.specs.declared.Kind.TheVariants.{Puts, Takes}
use Rattle.tree.specs.Shape.{Shape}
use Rattle.tree.specs.Memory.{Memory}
use Rattle.tree.specs.Order.{OpId, in_root, last_root, root_operations}
use Rattle.tree.specs.Standing.{times, stands_in, first_of, root_block_of}
use Rattle.tree.specs.Clauses.Invariant.{Sound}
use Rattle.tree.proofs.Names.{times_append}
use Rattle.tree.proofs.LastRoot.{root_written}
use Rattle.tree.proofs.Operations.{root_times}
use Rattle.tree.proofs.Reached.{reached_rises}
use Rattle.tree.proofs.Once.{InBlock, in_block}

-- ---- the first number that passes a test
pub first_append : (f : ℕ → Bool) (xs ys : List ℕ) (b : ℕ) → first_of f xs ≡ suc b → first_of f (xs ++ ys) ≡ suc b
unfolding first_of
first_append f [] ys b e = absurd (omega arith)
first_append f (x ∷ xs) ys b e = on (f x) e (first_append f xs ys b)
  where
    on : (p : Bool) → (if p then x else first_of f xs) ≡ suc b → (first_of f xs ≡ suc b → first_of f (xs ++ ys) ≡ suc b) → (if p then x else first_of f (xs ++ ys)) ≡ suc b
    on true e ih = e
    on false e ih = ih e

pub first_same : (f g : ℕ → Bool) (i j : ℕ) → i ≤ j → ((b : ℕ) → i ≤ b → b < j → f (suc b) ≡ g (suc b)) → first_of f (between i j) ≡ first_of g (between i j)
unfolding first_of
first_same f g i j le =
    between_all (λ a l. ((b : ℕ) → a ≤ b → b < j → f (suc b) ≡ g (suc b)) → first_of f l ≡ first_of g l) j (λ h. refl)
    (λ a l la ih h. rw (h a (le_refl _) la, ih (λ b al lb. h b (omega arith) lb))) i le

-- ---- the first block that x stands in
-- among the blocks after i up to j it is suc past
record FirstIn (s : Shape) (t : List ℕ) (x : OpId) (l : List ℕ) (i j : ℕ) : Type 0 where
  past : ℕ
  low : i ≤ past
  high : past < j
  is : first_of (λ b. ltb 0 (stands_in s t x b)) l ≡ suc past
  here : 1 ≤ stands_in s t x (suc past)
  before : (κ : Kind) → times x (flat_map (in_root s t κ) (between i past)) ≡ 0

module _ (s : Shape) (t : List ℕ) (x : OpId) where
  Gathers : List ℕ → Type 0
  Gathers l = 1 ≤ times x (flat_map (in_root s t Puts) l) + times x (flat_map (in_root s t Takes) l)

  first_more : (j i : ℕ) (l : List ℕ) → i < j → (Gathers l → FirstIn s t x l (suc i) j) → Gathers (suc i ∷ l) → FirstIn s t x (suc i ∷ l) i j
  unfolding Gathers flat_map times first_of stands_in
  first_more j i l lt ih h = on (dec_le 1 (stands_in s t x (suc i)))
    where
      on : Dec (1 ≤ stands_in s t x (suc i)) → FirstIn s t x (suc i ∷ l) i j
      on (yes p) =
          record {
            past = i;
            low = le_refl _;
            high = lt;
            is = rw (lt-ltb 0 (stands_in s t x (suc i)) p);
            here = p;
            before = λ κ. ap (times x) (gather_none (in_root s t κ) i);
          }
      on (no p) =
          let r = ih (omega (arith, times_append x (in_root s t Puts (suc i)) (flat_map (in_root s t Puts) l), times_append x (in_root s t Takes (suc i)) (flat_map (in_root s t Takes) l))) in
          record {
            past = r.past;
            low = omega (arith, r.low);
            high = r.high;
            is = rw (le-ltb 0 (stands_in s t x (suc i)) (omega arith)) r.is;
            here = r.here;
            before = λ κ.
                ap (times x) (gather_first (in_root s t κ) i r.past r.low)
                ∙ times_append x (in_root s t κ (suc i)) (flat_map (in_root s t κ) (between (suc i) r.past))
                ∙ omega (arith, r.before κ, none κ);
          }
        where
          none : (κ : Kind) → times x (in_root s t κ (suc i)) ≡ 0
          none Puts = omega arith
          none Takes = omega arith

  first_in : (i j : ℕ) → i ≤ j → Gathers (between i j) → FirstIn s t x (between i j) i j
  unfolding Gathers flat_map times
  first_in i j le = between_all (λ a l. Gathers l → FirstIn s t x l a j) j (λ h. absurd (omega arith)) (first_more j) i le

-- x's root block is suc past: it stands there, and in no earlier one
pub record RootBlock (s : Shape) (t : List ℕ) (x : OpId) : Type 0 where
  pub past : ℕ
  pub high : past < last_root s t
  pub is : root_block_of s t x ≡ suc past
  pub here : 1 ≤ stands_in s t x (suc past)
  pub before : (κ : Kind) → times x (flat_map (in_root s t κ) (between 0 past)) ≡ 0

pub root_block_lem : (s : Shape) (t : List ℕ) (x : OpId) → 1 ≤ times x (root_operations s t) → RootBlock s t x
unfolding root_block_of Gathers
root_block_lem s t x h =
    let r = first_in s t x 0 (last_root s t) (omega arith) (omega (arith, root_times s t x)) in
    record { past = r.past; high = r.high; is = r.is; here = r.here; before = r.before }

-- what stands in a root block is in the root order
pub stands_some : (s : Shape) (t : List ℕ) (x : OpId) (b : ℕ) → b < last_root s t → 1 ≤ stands_in s t x (suc b) → 1 ≤ times x (root_operations s t)
unfolding stands_in
stands_some s t x b l h = omega (arith, root_times s t x, more Puts, more Takes)
  where
    more : (κ : Kind) → times x (in_root s t κ (suc b)) ≤ times x (flat_map (in_root s t κ) (between 0 (last_root s t)))
    more κ =
        let f = in_root s t κ in
        omega (
          arith,
          ap (times x) (gather_at f 0 b (last_root s t) (omega arith) l),
          times_append x (flat_map f (between 0 b)) (f (suc b) ++ flat_map f (between (suc b) (last_root s t))),
          times_append x (f (suc b)) (flat_map f (between (suc b) (last_root s t))),
        )

module _ (s : Shape) (m : Memory) (sound : Sound s m) (x : OpId) where
  -- of two root blocks that it stands in neither is later than the other: up to the one before, it is not reached
  not_later : (b c : ℕ) → b ≤ last_root s m.table → c ≤ last_root s m.table → 1 ≤ stands_in s m.table x b → 1 ≤ stands_in s m.table x c → b ≤ c
  not_later b c lb lc hb hc = on (dec_le b c) (in_block s m sound x b lb hb) (in_block s m sound x c lc hc)
    where
      on : Dec (b ≤ c) → InBlock s m x b → InBlock s m x c → b ≤ c
      on (yes l) p q = l
      on (no l) p q =
          absurd (omega (arith, p.past, q.upto, reached_rises s m sound x.process p.process c (b - 1) (omega arith) (root_written s m sound (b - 1) (omega arith))))

  -- an operation stands in no two root blocks
  pub root_block_only : (b : ℕ) → b ≤ last_root s m.table → 1 ≤ stands_in s m.table x b → root_block_of s m.table x ≡ b
  root_block_only zero l h = absurd (omega (arith, (in_block s m sound x 0 l h).place))
  root_block_only (suc b) l h =
      let r = root_block_lem s m.table x (stands_some s m.table x b l h) in
      omega (arith, r.is, not_later (suc b) (suc r.past) l r.high h r.here, not_later (suc r.past) (suc b) r.high l r.here h)
