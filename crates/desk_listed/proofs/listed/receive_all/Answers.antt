-- `listed::receive_all` meets its contract.
use Prim.Native.Nat.{ℕ}
use native.Mathlib.Omega.{arith}
use mathlib.Core.Path.{ap, sym, ◌∙◌}
use lib.ListN.{length, replicate, length-replicate}
use lib.Seq.{length-take-le}
use Rattle.steps.proofs.Limits.{allowed_most}
use Rattle.calls.proofs.CallAccepted.{accepted_operations}
use Rattle.desk_listed.proofs.RunAnswers.{Ran, ran_room, ran_slots, ran_received}
use Rattle.desk_listed.proofs.listed.receive_all.Goals.{After-otq_run-ran}
use Rattle.desk_listed.proofs.listed.receive_all.Goals as goal

-- the run
abbrev IsRan : After-otq_run-ran → Type 0
IsRan c = let last = c.otq_run-ran.new in
    Ran c.args.p c.args.l c.args.records.now c.args.table.now (replicate 64000 0) c.otq_run-ran.result last.table last.answers

ran_at : (c : After-otq_run-ran) → IsRan c
ran_at c = record { call = c.requires.call; room = length-replicate {A = ℕ} 64000 0; left = c.otq_run-ran.ensures.rules }

pub slice_bounds-receive-end : goal.slice_bounds-receive-end
slice_bounds-receive-end c =
    let ran = ran_at (goal.at.slice_bounds-receive-end c).After-otq_run-ran in
    sym (length-take-le _ _ (omega (arith, ran_room ran, c.as_chunks.ensures.front_len)))

pub receive-requires : goal.receive-requires
receive-requires c =
    let ran = ran_at (goal.at.receive-requires c).After-otq_run-ran in
    record { small = (allowed_most c.args.l (accepted_operations _ _ _ _ c.requires.call)).1; slots = ran_slots ran (λ i. omega (arith, c.type_inv.table i)) _ c.as_chunks.ensures.front _ (ap length c.requires.zeros ∙ length-replicate {A = ℕ} 4000 0) }

pub returns : goal.returns
returns c =
    ran_received (ran_at (goal.at.returns c).After-otq_run-ran) (λ i. omega (arith, c.type_inv.table i)) _ c.as_chunks.ensures.front _ _ c.requires.zeros c.receive.ensures
