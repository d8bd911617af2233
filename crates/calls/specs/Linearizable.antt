-- Demand 3 in the field's own words: linearizable to a FIFO queue (Herlihy and Wing), and wait-free (Herlihy).
use Rattle.std.specs.Prelude.{ℕ, ◌≤◌, ◌<◌, ◌≡◌, Bool, true, false, ◌&&◌, ◌||◌, List, [], ◌∷◌, map, ltb, if◌then◌else◌}
use Rattle.record.specs.declared.Reply.{Reply}
use Rattle.record.specs.declared.Reply.TheVariants.{Nothing}
use Rattle.record.specs.declared.AnswerRecord.{AnswerRecord}
use Rattle.tree.specs.Order.{OpId}
use Rattle.tree.specs.Standing.{same, times}
use Rattle.calls.specs.History.{Event, operation, is_opened, is_finished, finished_before, own_steps}
use Rattle.calls.specs.Demand3.{queue_answer, finishing}

-- The concurrent history: an operation is invoked by the record that opens it, and responds with the record that
-- finishes it. Its response is what its answer record says.
unfoldable pub response : List AnswerRecord → OpId → Reply
response [] x = Nothing
response (a ∷ log) x = let r = response log x in if same x (operation a.process a.serial) then a.reply else r

-- x stands before y in an order
unfoldable pub precedes : OpId → OpId → List OpId → Bool
precedes x y [] = false
precedes x y (z ∷ order) = (same x z && ltb 0 (times y order)) || precedes x y order

-- A history is linearizable to a FIFO queue if some order of operations, among them all that responded and, of the
-- others, some that were invoked, is one in which a FIFO queue gives every operation that responded its response, and
-- which keeps the order of operations that do not overlap. The log has the record of each response, in their order.
pub record Linearizable (h : List Event) (log : List AnswerRecord) : Type 0 where
  pub told : map (λ (a : AnswerRecord). operation a.process a.serial) log ≡ finishing h
  pub order : List OpId
  pub responded : (x : OpId) → is_finished x h ≡ true → times x order ≡ 1
  pub once : (x : OpId) → times x order ≤ 1
  pub invoked : (x : OpId) → 1 ≤ times x order → is_opened x h ≡ true
  pub legal : (x : OpId) → is_finished x h ≡ true → response log x ≡ queue_answer h x [] order
  pub keeps_order : (x y : OpId) → finished_before x y h ≡ true → 1 ≤ times x order → 1 ≤ times y order → precedes x y order ≡ true

-- Wait-free with a bound: whatever the others do, an operation takes no more own steps than the bound, and one that has
-- not responded has taken fewer.
pub record WaitFree (bound : ℕ) (h : List Event) : Type 0 where
  pub within : (x : OpId) → own_steps x h ≤ bound
  pub responds : (x : OpId) → is_finished x h ≡ false → own_steps x h < bound
