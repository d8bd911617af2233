-- What each record does to the numbers of blocks, and that a block keeps its number as more records are played. For
-- general H.
use Prim.Native.Nat.{ℕ, ◌≤◌}
use mathlib.Core.Path.{◌≡◌, ap, sym, ◌∙◌, subst}
use mathlib.Core.List.{List, [], ◌∷◌, ◌++◌, append-nil}
use lib.Seq.{append_snoc}
use Rattle.tree.specs.Shape.{Shape}
use Rattle.tree.specs.Memory.{block}
use Rattle.tree.specs.Clauses.Invariant.{Node, Written}
use Rattle.tree.proofs.Growth.{Grows, grows_refl}
use Rattle.tree.proofs.Later.{later_written}
use Rattle.steps.proofs.Keeps.{step_effect, stepped_memory}
use Rattle.steps.proofs.WrittenNumbers.{WritesNumber, none_written, step_number}
use Rattle.calls.specs.Numbered.{Numbered}
use Rattle.calls.specs.History.{machine_after}
use Rattle.calls.proofs.Legal.{Accepted, Legal}
use Rattle.calls.proofs.Prefixes.{legal_prefix, legal_accepted}
use Rattle.calls.proofs.Histories.{memory_after}
use Rattle.calls.proofs.Runs.{Run, runs, by_record, later_run}

module _ (s : Shape) (tall : 1 ≤ s.height) where
  -- a record that is taken
  module _ (ns : List Numbered) (n : Numbered) (run : Run s ns) (acc : Accepted s (machine_after s ns) n.item) where
    pub record_number : WritesNumber s n.number (memory_after s ns) (memory_after s (ns ++ (n ∷ [])))
    record_number =
        by_record s tall ns n run acc (WritesNumber s n.number (memory_after s ns)) (none_written s n.number (memory_after s ns))
        (step_number s tall n.number (machine_after s ns) run.invariant)

    pub record_grows : Grows s (memory_after s ns) (memory_after s (ns ++ (n ∷ [])))
    record_grows =
        by_record s tall ns n run acc (Grows s (memory_after s ns)) (grows_refl s (memory_after s ns))
        (λ k kp o x at.
        let inv = run.invariant in
        subst (Grows s (memory_after s ns)) (sym (stepped_memory s tall n.number (machine_after s ns) inv k kp o x at))
        (step_effect s tall n.number (machine_after s ns) inv k kp o x at).grows)

  -- what is written keeps its number
  pub number_stays : (ns ts : List Numbered) → Legal s (ns ++ ts) → (u i : ℕ) → Node s u → Written s (memory_after s ns) u i
      → (block s (memory_after s (ns ++ ts)) u i).number ≡ (block s (memory_after s ns) u i).number
  number_stays ns [] l u i nu p = ap (λ (x : List Numbered). (block s (memory_after s x) u i).number) (append-nil ns)
  number_stays ns (n ∷ ts) l u i nu p =
      let e : (ns ++ (n ∷ [])) ++ ts ≡ ns ++ (n ∷ ts) = append_snoc ns n ts in
      let legal : Legal s ((ns ++ (n ∷ [])) ++ ts) = subst (Legal s) (sym e) l in
      let first = legal_prefix s (ns ++ (n ∷ [])) ts legal in
      ap (λ (x : List Numbered). (block s (memory_after s x) u i).number) (sym e)
      ∙ number_stays (ns ++ (n ∷ [])) ts legal u i nu (later_written (later_run s tall ns (n ∷ []) first) u i nu p)
      ∙ (record_number ns n (runs s tall (legal_prefix s ns (n ∷ ts) l)) (legal_accepted s ns n ts l)).stays u i nu p
