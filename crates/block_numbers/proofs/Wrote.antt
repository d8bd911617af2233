-- Every block was written by a record of the list: the one whose number it has. For general H.
use Prim.Native.Nat.{ℕ, suc, ◌≤◌, ◌<◌}
use native.Mathlib.Omega.{arith}
use native.Mathlib.Decide.{dec_le}
use mathlib.Core.Path.{◌≡◌, ap, sym, ◌∙◌, subst}
use mathlib.Core.Logic.{◌⊎◌, inl, inr}
use mathlib.Core.List.{List, [], ◌∷◌, ◌++◌}
use lib.ListN.{length, take, get_or, length-append}
use lib.Seq.{get_or-take, get_or-append_seam, take-append-le, take-append_seam, take_all}
use Rattle.tree.specs.Shape.{Shape}
use Rattle.tree.specs.Memory.{block}
use Rattle.tree.specs.Clauses.Invariant.{Node, count, Present}
use Rattle.tree.proofs.Cleared.{cleared_count}
use Rattle.steps.specs.Machine.{start}
use Rattle.calls.specs.Numbered.{Numbered}
use Rattle.calls.specs.History.{course_start, course_after, machine_after}
use Rattle.calls.proofs.Legal.{Legal, none, more}
use Rattle.calls.proofs.Histories.{memory_after}
use Rattle.calls.proofs.Runs.{runs}
use Rattle.calls.proofs.NumbersStay.{record_number}

-- the record at this index has the number, and wrote block i of node u
pub record WroteAt (s : Shape) (ns : List Numbered) (u i number : ℕ) : Type 0 where
  pub index : ℕ
  pub low : index < length ns
  pub is : (d : Numbered) → number ≡ (get_or ns index d).number
  pub before : count (block s (memory_after s (take index ns)) u i) ≡ 0
  pub after : Present s (memory_after s (take (suc index) ns)) u i

module _ (s : Shape) (ns : List Numbered) (n : Numbered) (u i : ℕ) where
  abbrev longer : List Numbered
  longer = ns ++ (n ∷ [])

  -- a record before the last
  earlier : {number : ℕ} → WroteAt s ns u i number → WroteAt s longer u i number
  earlier w =
      let kept : (j : ℕ) → j ≤ length ns → take j longer ≡ take j ns = λ j h. take-append-le j ns (n ∷ []) h in
      record {
        index = w.index;
        low = simp length-append (omega (arith, w.low));
        is =
            λ d.
            w.is d
            ∙ ap (λ (x : Numbered). x.number)
            (ap (λ (l : List Numbered). get_or l w.index d) (sym (take-append_seam ns (n ∷ []))) ∙ get_or-take (length ns) longer w.index d w.low);
        before = rw (kept w.index (omega (arith, w.low))) w.before;
        after = rw (kept (suc w.index) w.low) w.after;
      }

  -- the last record
  latest : count (block s (memory_after s ns) u i) ≡ 0 → Present s (memory_after s longer) u i → WroteAt s longer u i n.number
  latest free here =
      record {
        index = length ns;
        low = simp length-append (omega arith);
        is = λ d. ap (λ (x : Numbered). x.number) (sym (get_or-append_seam ns n [] d));
        before = rw (take-append_seam ns (n ∷ [])) free;
        after = rw (take_all (suc (length ns)) longer (simp length-append (omega arith))) here;
      }

pub wrote : (s : Shape) → 1 ≤ s.height → {ns : List Numbered} → Legal s ns → (u i : ℕ) → Node s u → Present s (memory_after s ns) u i
    → WroteAt s ns u i (block s (memory_after s ns) u i).number
unfolding machine_after course_after course_start start
wrote s tall none u i nu f = absurd (omega (arith, cleared_count s u i))
wrote s tall (more {ns} n l a) u i nu f = on (dec_le 1 (count (block s (memory_after s ns) u i))) (λ p. wrote s tall l u i nu p)
  where
    fresh : (Present s (memory_after s ns) u i → ⊥) → Present s (memory_after s ns) u i ⊎ ((block s (memory_after s (ns ++ (n ∷ []))) u i).number ≡ n.number)
        → WroteAt s (ns ++ (n ∷ [])) u i (block s (memory_after s (ns ++ (n ∷ []))) u i).number
    fresh p (inl q) = absurd (p q)
    fresh p (inr e) = subst (WroteAt s (ns ++ (n ∷ [])) u i) (sym e) (latest s ns n u i (omega arith) f)

    on : Dec (Present s (memory_after s ns) u i) → (Present s (memory_after s ns) u i → WroteAt s ns u i (block s (memory_after s ns) u i).number)
        → WroteAt s (ns ++ (n ∷ [])) u i (block s (memory_after s (ns ++ (n ∷ []))) u i).number
    on (yes p) ih =
        subst (WroteAt s (ns ++ (n ∷ [])) u i) (sym ((record_number s tall ns n (runs s tall l) a).stays u i nu (inr p))) (earlier s ns n u i (ih p))
    on (no p) ih = fresh p ((record_number s tall ns n (runs s tall l) a).fresh u i nu f)
