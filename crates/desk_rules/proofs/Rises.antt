-- Lists of numbers each of which is below all that follow it.
use Prim.Native.Nat.{ℕ, suc, ◌≤◌, ◌<◌}
use native.Mathlib.Omega.{arith}
use mathlib.Core.List.{List, [], ◌∷◌, ◌++◌}
use Rattle.base.specs.Members.{All}
use Rattle.base.proofs.Members.{all_map}
use Rattle.desk_rules.specs.Deliveries.{Rising}

-- rising, from a number on
pub record RisingFrom (low : ℕ) (ns : List ℕ) : Type 0 where
  pub all : All (λ i. low ≤ i) ns
  pub rising : Rising ns

pub rises_none : (low : ℕ) → RisingFrom low []
unfolding Rising
rises_none low = record { all = tt; rising = tt }

pub rises_first : (low n : ℕ) (ns : List ℕ) → low ≤ n → RisingFrom (suc n) ns → RisingFrom low (n ∷ ns)
unfolding Rising
rises_first low n ns l a = record { all = (l, all_map ns (λ i h. omega (arith, h, l)) a.all); rising = (a.all, a.rising) }

pub rises_rest : (low n : ℕ) (ns : List ℕ) → RisingFrom low (n ∷ ns) → RisingFrom (suc n) ns
unfolding Rising
rises_rest low n ns a = record { all = a.rising.0; rising = a.rising.1 }

pub rises_lower : (low high : ℕ) (ns : List ℕ) → low ≤ high → RisingFrom high ns → RisingFrom low ns
rises_lower low high ns l a = record { all = all_map ns (λ i h. omega (arith, h, l)) a.all; rising = a.rising }

-- one more at the end, above the others
pub rises_last : (low n : ℕ) (ns : List ℕ) → low ≤ n → All (λ i. i < n) ns → RisingFrom low ns → RisingFrom low (ns ++ (n ∷ []))
rises_last low n [] l b a = rises_first low n [] l (rises_none (suc n))
rises_last low n (i ∷ ns) l b a = rises_first low i (ns ++ (n ∷ [])) a.all.0 (rises_last (suc i) n ns b.0 b.1 (rises_rest low i ns a))
