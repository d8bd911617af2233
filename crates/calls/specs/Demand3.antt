-- Demand 3: what holds of the answer bytes and of the table words that a run leaves, whatever the order of its steps.
--
-- Document 01, "Terms of demand 3", and what says it:
--   a single claim about a whole list .. on the answers that Run writes and the blocks in the table that it leaves:
--       Demand3, RunKeeps
--   before the first record the needed words are zero, each head is 1 and every process is idle:
--       start (steps, Machine)
--   each record meets what the one before left; a refused record and those after it play no part:
--       course_after, over the records taken (History)
--   an operation is opened by a begin record, has its kind and value; its serial is its number among its begins:
--       next_event, operation, begun_by, does, is_opened (History)
--   it finishes with the record that does its Q:
--       next_event, is_finished (History)
--   it finished before another began:
--       finished_before (History)
--   its own steps; a finished operation's answer gives their number:
--       own_steps (History); queue_record
--   of request e: its helps, which its answer gives too, the moves made for children inside refreshes:
--       next_event, own_helps (History); queue_record
--   it stands in root block b once for each time that opening b's puts or takes gives its place:
--       stands_in (tree, Standing), opened (tree, Order)
--   nothing else stands there:
--       QueuePromises.nothing_else
--   the last root block:
--       last_root (tree, Order)
--   the plain queue, fed the operations in root order, each with the kind and value of its begin record:
--       fed, answers (PlainQueue); queue_after, queue_answer
use Rattle.std.specs.Prelude.{ℕ, ◌+◌, ◌*◌, ◌≤◌, ◌<◌, ◌≡◌, true, length, take, if◌then◌else◌}
use mathlib.Core.List.{List, [], ◌∷◌, map, foldl}
use Rattle.record.specs.declared.StepRecord.{StepRecord}
use Rattle.record.specs.declared.Reply.{Reply}
use Rattle.record.specs.declared.Reply.TheVariants.{Nothing}
use Rattle.record.specs.declared.AnswerRecord.{AnswerRecord}
use Rattle.record.specs.StepRecords.{step_records}
use Rattle.record.specs.AnswerRecords.{answer_size, log_bytes}
use Rattle.tree.specs.Shape.{Shape, root, shape_for}
use Rattle.tree.specs.Layout.{words_needed}
use Rattle.tree.specs.Blocks.{block_at}
use Rattle.tree.specs.Order.{OpId, last_root, root_operations}
use Rattle.tree.specs.Standing.{same, times, stands_in, root_block_of}
use Rattle.calls.specs.Numbered.{numbered}
use Rattle.calls.specs.Run.{RunResult}
use Rattle.calls.specs.PlainQueue.{fed, answers}
use Rattle.calls.specs.History.{Event, opens, moves, finishes, history, is_opened, is_finished, finished_before, own_steps, own_helps, does}

-- the plain queue after it was fed some operations, each with the kind and value of its begin record
unfoldable pub queue_after : List Event → List ℕ → List OpId → List ℕ
queue_after h q xs = foldl (λ c x. fed (does x h) c) q xs

-- what the plain queue q, fed some operations, answers to x
unfoldable pub queue_answer : List Event → OpId → List ℕ → List OpId → Reply
queue_answer h x q [] = Nothing
queue_answer h x q (y ∷ ys) =
    let r = queue_answer h x (fed (does y h) q) ys in if same x y then answers (does y h) q else r

-- the answer record of a finished operation, by the plain queue fed the root order
unfoldable pub queue_record : Shape → List ℕ → List Event → OpId → AnswerRecord
queue_record s t h x =
    record {
      process = x.process;
      reply = queue_answer h x [] (root_operations s t);
      steps = own_steps x h;
      helps = own_helps x h;
      serial = x.serial;
      block = root_block_of s t x;
    }

-- the operations that finish in some events, in the order of their Q's
unfoldable pub finishing : List Event → List OpId
finishing [] = []
finishing (opens x o ∷ h) = finishing h
finishing (moves x helped ∷ h) = finishing h
finishing (finishes x ∷ h) = x ∷ finishing h

-- the limit on an operation's own steps
unfoldable pub step_limit : Shape → ℕ
step_limit s = 40 * s.height + 1

-- the claims, on a history, the answer bytes and the table words
pub record QueuePromises (s : Shape) (h : List Event) (log t : List ℕ) : Type 0 where
  -- each finished operation stands in the root order exactly once
  pub finished_once : (x : OpId) → is_finished x h ≡ true → times x (root_operations s t) ≡ 1
  -- any other at most once
  pub at_most_once : (x : OpId) → times x (root_operations s t) ≤ 1
  -- nothing else
  pub nothing_else : (x : OpId) → 1 ≤ times x (root_operations s t) → is_opened x h ≡ true
  -- the plain queue fed the root order gives every finished take its answer, and the answers are those of the finished
  -- operations, in the order of their Q's
  pub answered : log ≡ log_bytes (map (queue_record s t h) (finishing h))
  -- and ends with as many values as the last root block says
  pub end_size : length (queue_after h [] (root_operations s t)) ≡ (block_at s t root (last_root s t)).size
  -- what finished before another began stands in an earlier block
  pub real_time : (x y : OpId) (b c : ℕ) → b ≤ last_root s t → c ≤ last_root s t → finished_before x y h ≡ true → 1 ≤ stands_in s t x b → 1 ≤ stands_in s t y c → b < c
  -- no operation takes more than 40H + 1 steps of its own
  pub steps_bounded : (x : OpId) → own_steps x h ≤ step_limit s

-- Demand 3, on p, L, the records taken, the answer bytes written and the table words left
abbrev pub Demand3 : ℕ → ℕ → List StepRecord → List ℕ → List ℕ → Type 0
Demand3 p l taken log t = QueuePromises (shape_for p l) (history (shape_for p l) (numbered taken)) log t

-- Demand 3 of a call of Run on some records: of those that it took, the bytes that it wrote and the needed words that
-- it left
abbrev pub RunKeeps : ℕ → ℕ → List ℕ → RunResult → Type 0
RunKeeps p l records e =
    Demand3 p l (take e.taken (step_records records)) (take (answer_size * e.answered) e.answers) (take (words_needed (shape_for p l)) e.table)
