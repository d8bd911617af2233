-- What an operation has taken so far, own steps and helps, by its history and by its process.
use Rattle.std.specs.Prelude.{if◌then◌else◌}
use Prim.Native.Nat.{ℕ, suc, ◌≤◌}
use native.Mathlib.Omega.{arith}
use mathlib.Core.Bool.{Bool, true, false, ◌&&◌}
use mathlib.Core.List.{List, [], ◌∷◌}
use Rattle.tree.specs.Order.{OpId}
use Rattle.tree.specs.Standing.{same}
use Rattle.steps.specs.declared.Process.{Process}
use Rattle.calls.specs.History.{Event, opens, moves, finishes, is_own_step, is_own_help, own_steps, own_helps}

pub record OwnCounts : Type 0 where
  pub steps : ℕ
  pub helps : ℕ

abbrev pub counts_of : OpId → List Event → OwnCounts
counts_of x h = record { steps = own_steps x h; helps = own_helps x h }

-- of the operation that a process is inside of, or was inside of last
abbrev pub counts_in : Process → OwnCounts
counts_in p = record { steps = p.steps; helps = p.helps }

-- a help is an own step
pub helps_within : (x : OpId) (h : List Event) → own_helps x h ≤ own_steps x h
unfolding own_helps own_steps is_own_help is_own_step
helps_within x [] = omega arith
helps_within x (opens y o ∷ h) = helps_within x h
helps_within x (moves y helped ∷ h) = on helped (same x y) (helps_within x h)
  where
    on : (a b : Bool) {i j : ℕ} → i ≤ j → (if a && b then suc i else i) ≤ (if b then suc j else j)
    on true true l = omega arith
    on true false l = l
    on false true l = omega arith
    on false false l = l
helps_within x (finishes y ∷ h) = on (same x y) (helps_within x h)
  where
    on : (b : Bool) {i j : ℕ} → i ≤ j → i ≤ (if b then suc j else j)
    on true l = omega arith
    on false l = l
