-- Requests c and d of the code of C3L, C3R and C3N, from its contracts: of two tables of one length that have the words
-- in common that such a step takes of its own block, the code may be given both or none, and with the same registers it
-- leaves the same process.
use Prim.Native.Nat.{ℕ, ◌-◌}
use mathlib.Core.Path.{◌≡◌, ap, sym, ◌∙◌}
use mathlib.Core.List.{List, [], ◌++◌}
use lib.ListN.{length}
use Rattle.tree.specs.Shape.{Shape, right_of}
use Rattle.tree.specs.Memory.{memory_of, block}
use Rattle.tree.proofs.Places.{same_place}
use Rattle.steps.specs.declared.Operation.TheVariants.{Take}
use Rattle.steps.specs.declared.Visit.{Visit}
use Rattle.steps.specs.declared.Step.{Step}
use Rattle.steps.specs.declared.Process.{Process}
use Rattle.steps.specs.Rules.{Stepped, step, go}
use Rattle.steps.specs.OwnWords.{totals_positions, size_positions, OwnWords, words_at}
use Rattle.stepping.specs.Clauses.Next.{operation_in, step_in, moved, NextByTable}
use Rattle.steps.specs.Clauses.Ready.{Sums, Decides}
use Rattle.steps.proofs.OwnWords.{totals_alike, before_alike, same_next}

-- the step that the code comes to is that of the rules
came : (s : Shape) (number : ℕ) (t heads : List ℕ) (q z : Process) (x : Step) → step_in q.status ≡ x → NextByTable s number t t q z
    → step_in (step s number 0 Take (memory_of t heads) x).next ≡ step_in z.status
unfolding go
came s number t heads q z x e p = let g = rw e at (p.1 0 Take heads) in ap (λ (y : Stepped). step_in y.next) g

module _ (s : Shape) (t u heads heads' : List ℕ) (x : Step) (is : List ℕ) (own : OwnWords s x is) (same : words_at (memory_of t heads) is ≡ words_at (memory_of u heads') is) where
  -- y is left where the table is t, and z where it is u
  pub same_process : (number : ℕ) (q y z : Process) → step_in q.status ≡ x → NextByTable s number t t q y → NextByTable s number u u q z → y ≡ z
  same_process number q y z e py pz =
      let next : step_in y.status ≡ step_in z.status =
      sym (came s number t heads q y x e py) ∙ ap step_in (same_next s (memory_of t heads) (memory_of u heads') x is own same number 0 Take)
      ∙ came s number u heads' q z x e pz in
      py.0 ∙ ap (moved q (operation_in q.status)) next ∙ sym pz.0

-- what C3R and C3N need of table t they need of u; what C3L needs, a place, goes by the length alone (`same_place`)
module _ (s : Shape) (t u heads : List ℕ) (e : length t ≡ length u) where
  pub same_sums : (w : Visit) (r puts takes : ℕ)
      → words_at (memory_of t heads) (totals_positions s (right_of w.node) r) ≡ words_at (memory_of u heads) (totals_positions s (right_of w.node) r)
      → Sums s t w r puts takes → Sums s u w r puts takes
  unfolding right_of totals_positions block
  same_sums w r puts takes same p =
      let a = totals_alike s (memory_of t heads) (memory_of u heads) (right_of w.node) r [] same in
      record { place = same_place e p.place; puts_low = rw (← a.puts) p.puts_low; takes_low = rw (← a.takes) p.takes_low }

  pub same_decides : (w : Visit) (puts takes : ℕ)
      → let is = totals_positions s w.node (w.head - 1) ++ size_positions s w.node (w.head - 1) in words_at (memory_of t heads) is ≡ words_at (memory_of u heads) is
      → Decides s t w puts takes → Decides s u w puts takes
  unfolding block
  same_decides w puts takes same p =
      let a = before_alike s (memory_of t heads) (memory_of u heads) w.node (w.head - 1) same in
      record {
        head = p.head;
        place = same_place e p.place;
        puts_low = p.puts_low;
        puts_rise = rw (← a.totals.puts) p.puts_rise;
        takes_rise = rw (← a.totals.takes) p.takes_rise;
        size_low = λ i. rw (← a.size i) (p.size_low i);
      }
