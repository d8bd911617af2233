-- C3N by its decision: the outcome that was decided for is the one of the rules.
use Prim.Native.Nat.{ℕ, ◌-◌}
use mathlib.Core.Path.{◌≡◌, refl}
use mathlib.Core.Bool.{Bool}
use mathlib.Core.List.{List}
use Rattle.std.specs.Prelude.{if◌then◌else◌}
use Rattle.tree.specs.Shape.{Shape}
use Rattle.tree.specs.Blocks.{block_at}
use Rattle.tree.specs.Memory.{block}
use Rattle.steps.specs.declared.Visit.{Visit}
use Rattle.steps.specs.declared.Process.{Process}
use Rattle.steps.specs.declared.Step.TheVariants.{C3N, C4}
use Rattle.steps.specs.Rules.{above, same_totals, built, step, go}
use Rattle.stepping.specs.Clauses.Next.{operation_in, step_in, moved, NextByTable}

pub decided_next : (s : Shape) (number : ℕ) (table : List ℕ) (q z : Process) (w : Visit) (l r puts takes : ℕ) → step_in q.status ≡ C3N w l r puts takes
    → let old = block_at s table w.node (w.head - 1) in
    (b : Bool) → b ≡ same_totals puts takes old
    → z ≡ moved q (operation_in q.status) (if b then above w.node else C4 w (built w.node old l r puts takes)) → NextByTable s number table table q z
unfolding step go block
decided_next s number table q z w l r puts takes here b d e = rw e (refl, λ k o heads. rw (here, ← d))
