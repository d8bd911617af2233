-- What stays over any number of steps: heads never fall, and what is written stays but for super.
use Prim.Native.Nat.{ℕ, ◌≤◌, ◌<◌}
use native.Mathlib.Omega.{arith}
use native.Mathlib.Nat.{le_refl}
use mathlib.Core.Path.{◌≡◌, ◌∙◌}
use mathlib.Core.Logic.{inl, inr}
use Rattle.tree.specs.declared.Block.{Block}
use Rattle.tree.specs.Shape.{Shape, processes}
use Rattle.tree.specs.Memory.{Memory, head_of, block}
use Rattle.tree.specs.Clauses.Invariant.{Node, Present, Written, Sound}
use Rattle.tree.proofs.Growth.{Same, same_refl, Grows, heads_rise}
use Rattle.tree.proofs.Ancestors.{ancestor}
use Rattle.tree.proofs.Reach.{reach, reach_stays}

-- memory n may come some steps after m
pub record Later (s : Shape) (m n : Memory) : Type 0 where
  pub rises : (u : ℕ) → Node s u → head_of m u ≤ head_of n u
  pub stays : (u i : ℕ) → Node s u → Written s m u i → Same (block s n u i) (block s m u i)

pub same_trans : {x y z : Block} → Same x y → Same y z → Same x z
same_trans p q =
    record {
      puts = p.puts ∙ q.puts;
      takes = p.takes ∙ q.takes;
      left = p.left ∙ q.left;
      right = p.right ∙ q.right;
      size = p.size ∙ q.size;
    }

pub later_refl : (s : Shape) (m : Memory) → Later s m m
later_refl s m = record { rises = λ u nu. le_refl _; stays = λ u i nu p. same_refl (block s m u i) }

module _ {s : Shape} {m n : Memory} (l : Later s m n) where
  pub later_present : (u i : ℕ) → Node s u → Present s m u i → Present s n u i
  later_present u i nu f = let e = l.stays u i nu (inr f) in omega (arith, e.puts, e.takes)

  pub later_written : (u i : ℕ) → Node s u → Written s m u i → Written s n u i
  later_written u i nu (inl e) = inl e
  later_written u i nu (inr f) = inr (later_present u i nu f)

  pub later_trans : {o : Memory} → Later s n o → Later s m o
  later_trans k =
      record {
        rises = λ u nu. omega (arith, l.rises u nu, k.rises u nu);
        stays = λ u i nu p. same_trans (k.stays u i nu (later_written u i nu p)) (l.stays u i nu p);
      }

  -- one more step
  pub later_grows : {o : Memory} → Grows s n o → Later s m o
  later_grows g = later_trans (record { rises = heads_rise g; stays = g.stays })

  pub reach_later : Sound s m → (k : ℕ) → k < processes s → (j : ℕ) → j ≤ s.height → (i : ℕ) → Written s m (ancestor s k j) i → reach s n k j i ≡ reach s m k j i
  reach_later sound k kp = reach_stays s m sound k kp n l.stays
