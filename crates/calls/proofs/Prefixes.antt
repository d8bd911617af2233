-- The first records of a legal list are legal, and each is accepted after those before it.
use Prim.Native.Nat.{ℕ, ◌≤◌}
use native.Mathlib.Omega.{arith}
use native.Mathlib.Decide.{dec_le}
use mathlib.Core.Path.{◌≡◌, refl, ap, sym, ◌∙◌, subst}
use mathlib.Core.List.{List, [], ◌∷◌, ◌++◌}
use lib.ListN.{length, get_or, take, length-append}
use lib.Seq.{append_snoc, take-nil, take_all, take-append-le, take-append_seam, take_at, get_or_at}
use Rattle.tree.specs.Shape.{Shape}
use Rattle.calls.specs.Numbered.{Numbered}
use Rattle.calls.specs.History.{machine_after}
use Rattle.calls.proofs.Legal.{Accepted, Legal, none, more}

module _ (s : Shape) where
  legal_take : {ns : List Numbered} → Legal s ns → (i : ℕ) → Legal s (take i ns)
  legal_take none i = subst (Legal s) (sym (take-nil i)) none
  legal_take (more {ns} n l a) i = on (dec_le i (length ns)) (legal_take l i)
    where
      on : Dec (i ≤ length ns) → Legal s (take i ns) → Legal s (take i (ns ++ (n ∷ [])))
      on (yes h) ih = subst (Legal s) (sym (take-append-le i ns (n ∷ []) h)) ih
      on (no h) ih = subst (Legal s) (sym (take_all i (ns ++ (n ∷ [])) (simp length-append (omega arith)))) (more n l a)

  pub legal_prefix : (ns ts : List Numbered) → Legal s (ns ++ ts) → Legal s ns
  legal_prefix ns ts l = subst (Legal s) (take-append_seam ns ts) (legal_take l (length ns))

  -- the last record, of a list that is known to end with it
  last_accepted : {l : List Numbered} → Legal s l → (ns : List Numbered) (n : Numbered) → l ≡ ns ++ (n ∷ []) → Accepted s (machine_after s ns) n.item
  last_accepted none ns n e = absurd (omega (arith, simp length-append at (ap length e)))
  last_accepted (more {ns = before} last l a) ns n e =
      let many : length before ≡ length ns = omega (arith, simp length-append at (ap length e)) in
      let p : before ≡ ns = sym (take_at before (last ∷ []) (length ns) many) ∙ ap (take (length ns)) e ∙ take_at ns (n ∷ []) (length ns) refl in
      let q : last ≡ n = sym (get_or_at before last [] n (length ns) many) ∙ ap (λ (l : List Numbered). get_or l (length ns) n) e ∙ get_or_at ns n [] n (length ns) refl in
      subst (λ (x : Numbered). Accepted s (machine_after s ns) x.item) q (subst (λ (l : List Numbered). Accepted s (machine_after s l) last.item) p a)

  pub legal_accepted : (ns : List Numbered) (n : Numbered) (ts : List Numbered) → Legal s (ns ++ (n ∷ ts)) → Accepted s (machine_after s ns) n.item
  legal_accepted ns n ts l = last_accepted (legal_prefix (ns ++ (n ∷ [])) ts (subst (Legal s) (sym (append_snoc ns n ts)) l)) ns n refl
