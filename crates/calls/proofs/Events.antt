-- What one more event keeps: what an operation does, and which operations have finished. Lists of operations by what
-- holds of each.
use Rattle.std.specs.Prelude.{if◌then◌else◌}
use Prim.Native.Nat.{suc, ◌≤◌}
use native.Mathlib.Omega.{arith}
use mathlib.Core.Path.{◌≡◌, refl, ◌∙◌}
use mathlib.Core.Bool.{Bool, true, false, ◌||◌}
use mathlib.Core.List.{List, [], ◌∷◌, ◌++◌, map}
use Rattle.base.specs.Members.{All}
use Rattle.base.proofs.Members.{all_map}
use Rattle.tree.specs.Order.{OpId}
use Rattle.tree.specs.Standing.{same, times}
use Rattle.tree.proofs.Names.{same_refl}
use Rattle.calls.specs.History.{Event, opens, moves, finishes, is_finish, is_opened, is_finished, does}
use Rattle.calls.specs.Demand3.{finishing}
use Rattle.calls.proofs.Histories.{does_append}

-- an operation that was opened does what it did
pub does_kept : (x : OpId) (h k : List Event) → is_opened x h ≡ true → does x (h ++ k) ≡ does x h
does_kept x h k e = does_append x h k ∙ rw e

-- an event of another operation
pub or_true : (a b : Bool) → a ≡ true → a || b ≡ true
or_true a b e = rw e

pub or_cases : {A : Type 0} (a b : Bool) → a || b ≡ true → (a ≡ true → A) → (b ≡ true → A) → A
or_cases true b e p q = p refl
or_cases false b e p q = q e

-- the operations that finish have finished
finish_tail : (x : OpId) (e : Event) (h : List Event) → is_finished x h ≡ true → is_finished x (e ∷ h) ≡ true
unfolding is_finished
finish_tail x e h p = on (is_finish x e)
  where
    on : (b : Bool) → b || is_finished x h ≡ true
    on true = refl
    on false = p

finish_here : (x : OpId) (h : List Event) → is_finished x (finishes x ∷ h) ≡ true
unfolding is_finished is_finish
finish_here x h = or_true (same x x) (is_finished x h) (same_refl x)

pub finishing_all : (h : List Event) → All (λ x. is_finished x h ≡ true) (finishing h)
unfolding finishing
finishing_all [] = tt
finishing_all (opens x o ∷ h) = all_map (finishing h) (λ y p. finish_tail y (opens x o) h p) (finishing_all h)
finishing_all (moves x helped ∷ h) = all_map (finishing h) (λ y p. finish_tail y (moves x helped) h p) (finishing_all h)
finishing_all (finishes x ∷ h) = (finish_here x h, all_map (finishing h) (λ y p. finish_tail y (finishes x) h p) (finishing_all h))

-- a property of every operation that is in a list holds of all of the list
pub all_times : {P : OpId → Type 0} (xs : List OpId) → ((y : OpId) → 1 ≤ times y xs → P y) → All P xs
unfolding times
all_times [] f = tt
all_times {P} (x ∷ xs) f = (f x (here (same x x) (same_refl x)), all_times xs (λ y l. f y (there y (same y x) l)))
  where
    here : (b : Bool) → b ≡ true → 1 ≤ (if b then suc (times x xs) else times x xs)
    here b e = rw e (omega arith)

    there : (y : OpId) (b : Bool) → 1 ≤ times y xs → 1 ≤ (if b then suc (times y xs) else times y xs)
    there y true l = omega arith
    there y false l = l

-- two functions that agree on a list map it alike
pub map_same : {A B : Type 0} (f g : A → B) (xs : List A) → All (λ x. f x ≡ g x) xs → map f xs ≡ map g xs
map_same f g [] p = refl
map_same f g (x ∷ xs) p = rw (p.0, map_same f g xs p.1)
