-- The theorem: history only grows. For general H of every legal list and of every two runs; and of what Run and list
-- the order leave, for every p, L, list of bytes, continuation, table and buffer.
use Prim.Native.Nat.{ℕ, ◌*◌, ◌≤◌}
use mathlib.Core.Path.{◌≡◌}
use mathlib.Core.Bool.{true, false}
use mathlib.Core.List.{List, ◌++◌}
use lib.ListN.{length}
use Rattle.base.specs.Beginning.{IsBeginning}
use Rattle.base.proofs.Beginnings.{beginning_append, beginning_gathered}
use Rattle.record.specs.declared.StepRecord.{StepRecord}
use Rattle.record.specs.StepRecords.{step_size, step_records}
use Rattle.record.specs.AnswerRecords.{answer_size}
use Rattle.record.specs.OrderRecords.{order_bytes}
use Rattle.record.proofs.Cuts.{records_append}
use Rattle.tree.specs.Shape.{Shape, shape_for}
use Rattle.tree.specs.Order.{root_order}
use Rattle.tree.proofs.OrderGrows.{order_grows}
use Rattle.steps.specs.Machine.{Machine}
use Rattle.calls.specs.Refusals.{accepted, torn}
use Rattle.calls.specs.Numbered.{Numbered, numbered_after, numbered}
use Rattle.calls.specs.Run.{play, run}
use Rattle.order.specs.OrderList.{order_record, order_list}
use Rattle.calls.specs.ListOrder.{play_all, list_order}
use Rattle.calls.specs.History.{machine_after}
use Rattle.calls.specs.Continuation.{RunGrows, ListGrows, HistoryGrows}
use Rattle.calls.proofs.Numbers.{numbered_append}
use Rattle.calls.proofs.Legal.{Legal}
use Rattle.calls.proofs.Prefixes.{legal_prefix}
use Rattle.calls.proofs.Played.{whole_machine, whole_legal}
use Rattle.calls.proofs.Runs.{runs, later_run}
use Rattle.calls.proofs.CallAccepted.{whole_records, accepted_whole}
use Rattle.calls.proofs.Theorem.{tall_for}
use Rattle.calls.proofs.Unrefused.{run_accepted, run_played_lem, run_order, list_accepted, list_played_lem, list_bytes}

-- ---- general H
module _ (s : Shape) (tall : 1 ≤ s.height) where
  abbrev Grown : Machine → Machine → Type 0
  Grown m n = IsBeginning (root_order s m.memory.table) (root_order s n.memory.table)

  -- over legal records
  pub legal_grows : (ns ts : List Numbered) → Legal s (ns ++ ts) → Grown (machine_after s ns) (machine_after s (ns ++ ts))
  legal_grows ns ts l =
      rw (order_grows s (machine_after s ns).memory (machine_after s (ns ++ ts)).memory (runs s tall (legal_prefix s ns ts l)).invariant.sound
      (runs s tall l).invariant.sound (later_run s tall ns ts l))
      (beginning_append (root_order s (machine_after s ns).memory.table) _)

  -- over runs without refusal, each with a room of its own
  pub played_grows : (room room' : ℕ) (rs ts : List StepRecord) → accepted (play s room rs).refusal ≡ true → accepted (play s room' (rs ++ ts)).refusal ≡ true
      → Grown (play s room rs).machine (play s room' (rs ++ ts)).machine
  played_grows room room' rs ts ok ok' =
      rw (whole_machine s room rs ok, whole_machine s room' (rs ++ ts) ok', numbered_append rs ts)
      (legal_grows (numbered rs) (numbered_after (length rs) ts) (rw (numbered_append rs ts) at (whole_legal s room' (rs ++ ts) ok')))

-- ---- a list of bytes and its continuation
module _ (p l : ℕ) (records more : List ℕ) where
  continued : torn step_size (length records) ≡ false → step_records (records ++ more) ≡ step_records records ++ step_records more
  continued e = records_append records more (whole_records (length records) e)

  runs_grow : (table answers table' answers' : List ℕ) → RunGrows p l (run p l records table answers) (run p l (records ++ more) table' answers')
  runs_grow table answers table' answers' none none' =
      let both-parts = continued (accepted_whole p l (length table) (length records) (run_accepted p l records table answers none)) in
      rw (run_order p l records table answers none, run_order p l (records ++ more) table' answers' none', both-parts)
      (played_grows (shape_for p l) (tall_for p l) (length answers) (length answers') (step_records records) (step_records more) (run_played_lem p l records table answers none)
      (rw both-parts at (run_played_lem p l (records ++ more) table' answers' none')))

  lists_grow : (table output table' output' : List ℕ) → ListGrows (list_order p l records table output) (list_order p l (records ++ more) table' output')
  unfolding order_list play_all
  lists_grow table output table' output' none none' =
      let both-parts = continued (accepted_whole p l (length table) (length records) (list_accepted p l records table output none)) in
      rw (list_bytes p l records table output none, list_bytes p l (records ++ more) table' output' none', both-parts)
      (beginning_gathered _ _
      (played_grows (shape_for p l) (tall_for p l) (answer_size * length (step_records records)) (answer_size * length (step_records records ++ step_records more)) (step_records records)
      (step_records more) (list_played_lem p l records table output none) (rw both-parts at (list_played_lem p l (records ++ more) table' output' none')))
      (λ x. order_bytes (order_record x)))

  pub history_grows : HistoryGrows p l records more
  history_grows = record { order = runs_grow; list = lists_grow }
