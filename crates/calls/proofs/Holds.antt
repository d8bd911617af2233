-- Demand 3 holds wherever history and machine agree: clause by clause.
use Prim.Native.Nat.{ℕ, ◌-◌, ◌≤◌, ◌<◌}
use native.Mathlib.Omega.{arith}
use native.Mathlib.Decide.{dec_le}
use mathlib.Core.Path.{◌≡◌, ap}
use mathlib.Core.List.{List, []}
use lib.ListN.{length}
use Rattle.record.specs.declared.AnswerRecord.{AnswerRecord}
use Rattle.record.specs.AnswerRecords.{log_bytes}
use Rattle.tree.specs.Shape.{Shape, root}
use Rattle.tree.specs.Memory.{Memory, block}
use Rattle.tree.specs.Blocks.{block_at}
use Rattle.tree.specs.Order.{OpId, last_root, root_operations}
use Rattle.tree.specs.Standing.{stands_in}
use Rattle.tree.specs.Clauses.Invariant.{Sound}
use Rattle.tree.proofs.LastRoot.{root_written}
use Rattle.tree.proofs.Reached.{reached_rises}
use Rattle.tree.proofs.Once.{InBlock, stands_most, in_block}
use Rattle.steps.specs.Machine.{Machine}
use Rattle.steps.proofs.Costs.{rest_first}
use Rattle.calls.specs.History.{Event, own_steps}
use Rattle.calls.specs.Demand3.{queue_after, step_limit, QueuePromises}
use Rattle.calls.proofs.Agrees.{Before, Agrees}
use Rattle.calls.proofs.RecordsStay.{standing_opened, finished_stands}
use Rattle.calls.proofs.RootQueue.{queue_length}

module _ {s : Shape} {m : Machine} {c : ℕ → ℕ} {h : List Event} {log : List AnswerRecord} (ag : Agrees s m c h log) (tall : 1 ≤ s.height) where
  abbrev mem : Memory
  mem = m.memory

  abbrev t : List ℕ
  t = m.memory.table

  sound : Sound s m.memory
  sound = ag.invariant.sound

  -- x stands at or before the cut, y after it
  in_order_lem : (x y : OpId) (b d : ℕ) → b ≤ last_root s t → d ≤ last_root s t → Before s mem x y → 1 ≤ stands_in s t x b → 1 ≤ stands_in s t y d → b < d
  in_order_lem x y b d bl dl cut p q = omega (arith, first (dec_le b cut.cut), second (dec_le d cut.cut))
    where
      ib : InBlock s mem x b
      ib = in_block s mem sound x b bl p

      id : InBlock s mem y d
      id = in_block s mem sound y d dl q

      first : Dec (b ≤ cut.cut) → b ≤ cut.cut
      first (yes l) = l
      first (no l) =
          absurd (omega (
            arith,
            cut.first,
            ib.past,
            reached_rises s mem sound x.process ib.process cut.cut (b - 1) (omega arith) (root_written s mem sound (b - 1) (omega arith)),
          ))

      second : Dec (d ≤ cut.cut) → cut.cut < d
      second (no l) = omega arith
      second (yes l) =
          absurd (omega (
            arith,
            cut.second,
            id.upto,
            reached_rises s mem sound y.process id.process d cut.cut l (root_written s mem sound cut.cut cut.within),
          ))

  end_size_lem : length (queue_after h [] (root_operations s t)) ≡ (block_at s t root (last_root s t)).size
  unfolding block
  end_size_lem = queue_length s mem sound h ag.leaves tall

  bounded : (x : OpId) → own_steps x h ≤ step_limit s
  unfolding step_limit
  bounded x = omega (arith, ag.few x, rest_first s tall)

  pub kept : QueuePromises s h (log_bytes log) t
  kept =
      record {
        finished_once = finished_stands ag tall;
        at_most_once = λ x. stands_most s mem sound x tall;
        nothing_else = standing_opened ag tall;
        answered = ap log_bytes ag.answers;
        end_size = end_size_lem;
        real_time = λ x y b d bl dl e. in_order_lem x y b d bl dl (ag.before x y e);
        steps_bounded = bounded;
      }
