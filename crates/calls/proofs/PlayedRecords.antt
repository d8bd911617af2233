-- What holds of the answers and of the root order of every run, in terms of the run alone. For general H.
use Prim.Native.Nat.{ℕ, ◌*◌, ◌^◌, ◌≤◌, ◌<◌}
use mathlib.Core.Path.{◌≡◌}
use mathlib.Core.Bool.{true, false}
use mathlib.Core.List.{List, []}
use lib.ListN.{length, get_or, take}
use Rattle.base.specs.Members.{All}
use Rattle.record.specs.declared.StepRecord.{StepRecord}
use Rattle.record.specs.declared.AnswerRecord.{AnswerRecord}
use Rattle.record.specs.declared.Reply.TheVariants.{Nothing}
use Rattle.record.proofs.ReadBack.{Fitting, OrderFits}
use Rattle.tree.specs.Shape.{Shape, processes}
use Rattle.tree.specs.Order.{OpId, root_order, root_operations}
use Rattle.tree.specs.Standing.{times}
use Rattle.order.specs.OrderList.{order_record, order_list}
use Rattle.calls.specs.Numbered.{numbered}
use Rattle.calls.specs.Run.{play}
use Rattle.calls.specs.History.{operation, history, is_finished}
use Rattle.calls.specs.Demand3.{queue_answer}
use Rattle.calls.specs.Linearizable.{response}
use Rattle.calls.proofs.Linearized.{answered, unanswered}
use Rattle.calls.proofs.Theorem.{played_agreed, played_kept}
use Rattle.calls.proofs.RecordsFit.{Named, order_named, order_few, answers_named, answers_fit, orders_fit}

module _ (s : Shape) (tall : 1 ≤ s.height) (room : ℕ) (rs : List StepRecord) where
  -- a finished operation's response is what the plain queue fed the root order answers it; another has none
  pub played_answered : (x : OpId) → is_finished x (history s (numbered (take (play s room rs).taken rs))) ≡ true
      → response (play s room rs).answers x ≡ queue_answer (history s (numbered (take (play s room rs).taken rs))) x [] (root_operations s (play s room rs).machine.memory.table)
  played_answered = answered (played_agreed s tall room rs) tall

  pub played_unanswered : (x : OpId) → is_finished x (history s (numbered (take (play s room rs).taken rs))) ≡ false → response (play s room rs).answers x ≡ Nothing
  played_unanswered = unanswered (played_agreed s tall room rs) tall

  -- the root order: each operation at most once, among p × L
  pub played_once : (x : OpId) → times x (root_operations s (play s room rs).machine.memory.table) ≤ 1
  played_once = (played_kept s tall room rs).at_most_once

  pub played_named : All (Named s) (root_operations s (play s room rs).machine.memory.table)
  played_named = order_named (played_agreed s tall room rs) tall

  pub played_few : length (order_list s (play s room rs).machine.memory.table) ≤ 8 * (s.most * processes s)
  played_few = order_few (played_agreed s tall room rs) tall

  pub played_answers_named : All (λ (a : AnswerRecord). Named s (operation a.process a.serial)) (play s room rs).answers
  played_answers_named = answers_named (played_agreed s tall room rs) tall

  -- records fit their bytes
  module _ (low : s.height ≤ 3) (few : s.most ≤ 500) where
    pub played_answers_fit : ((i : ℕ) → get_or (play s room rs).machine.memory.table i 0 < 2 ^ 32) → All Fitting (play s room rs).answers
    played_answers_fit = answers_fit (played_agreed s tall room rs) tall low few

    pub played_orders_fit : All (λ x. OrderFits (order_record x)) (root_order s (play s room rs).machine.memory.table)
    played_orders_fit = orders_fit (played_agreed s tall room rs) tall low few
