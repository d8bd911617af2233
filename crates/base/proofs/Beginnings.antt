-- What a beginning is: no longer than the list, with every entry at its own place there. What is added at the end
-- leaves it a beginning, and so does gathering from each entry.
use Prim.Native.Nat.{ℕ, ◌≤◌, ◌<◌}
use native.Mathlib.Omega.{arith}
use mathlib.Core.Path.{◌≡◌, ap, sym, ◌∙◌}
use mathlib.Core.List.{List, ◌++◌, flat_map}
use lib.ListN.{length, drop, get_or, length-take, take-append-drop}
use lib.Seq.{get_or-take, take-append_seam}
use Rattle.base.specs.Beginning.{IsBeginning}
use Rattle.base.proofs.Gather.{flat_map-append}

module _ {A : Type 0} (xs ys : List A) where
  pub beginning_append : IsBeginning xs (xs ++ ys)
  beginning_append = take-append_seam xs ys

  module _ (b : IsBeginning xs ys) where
    pub beginning_shorter : length xs ≤ length ys
    beginning_shorter = omega (arith, simp length-take at (ap length b))

    pub beginning_entry : (i : ℕ) → i < length xs → (x : A) → get_or ys i x ≡ get_or xs i x
    beginning_entry i h x = sym (get_or-take (length xs) ys i x h) ∙ ap (λ (l : List A). get_or l i x) b

    pub beginning_gathered : {B : Type 0} (f : A → List B) → IsBeginning (flat_map f xs) (flat_map f ys)
    beginning_gathered f =
        let whole : ys ≡ xs ++ drop (length xs) ys = sym (take-append-drop (length xs) ys) ∙ ap (λ (l : List A). l ++ drop (length xs) ys) b in
        rw (ap (flat_map f) whole ∙ flat_map-append f xs (drop (length xs) ys)) (take-append_seam (flat_map f xs) (flat_map f (drop (length xs) ys)))
