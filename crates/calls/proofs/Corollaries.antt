-- What holds of every run, for general H, in the field's own words: it is linearizable and wait-free.
use Prim.Native.Nat.{ℕ, ◌≤◌}
use mathlib.Core.List.{List}
use lib.ListN.{take}
use Rattle.record.specs.declared.StepRecord.{StepRecord}
use Rattle.tree.specs.Shape.{Shape}
use Rattle.calls.specs.Numbered.{numbered}
use Rattle.calls.specs.Run.{play}
use Rattle.calls.specs.History.{history}
use Rattle.calls.specs.Demand3.{step_limit}
use Rattle.calls.specs.Linearizable.{Linearizable, WaitFree}
use Rattle.calls.proofs.Theorem.{played_agreed}
use Rattle.calls.proofs.Linearized.{linearizable}
use Rattle.calls.proofs.WaitFree.{wait_free}

-- ---- a run of any records, to its end or up to its first refusal
module _ (s : Shape) (tall : 1 ≤ s.height) (room : ℕ) (rs : List StepRecord) where
  pub played_linearizable : Linearizable (history s (numbered (take (play s room rs).taken rs))) (play s room rs).answers
  played_linearizable = linearizable (played_agreed s tall room rs) tall

  pub played_wait_free : WaitFree (step_limit s) (history s (numbered (take (play s room rs).taken rs)))
  played_wait_free = wait_free (played_agreed s tall room rs) tall
