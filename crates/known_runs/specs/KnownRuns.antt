-- The known runs M1 to M11, as rows, and one theorem over the rows.
use Rattle.std.specs.Prelude.{ℕ, ◌-◌, ◌≡◌, refl, List, [], ◌∷◌, ◌++◌, map, length, ℤ, pos, negsuc}
use Rattle.record.specs.declared.Reply.{Reply}
use Rattle.record.specs.declared.Reply.TheVariants.{Done, Value, Nothing}
use Rattle.record.specs.declared.AnswerRecord.{AnswerRecord}
use Rattle.record.specs.StepRecords.{step_records}
use Rattle.record.specs.AnswerRecords.{log_bytes}
use Rattle.tree.specs.declared.Kind.TheVariants.{Puts, Takes}
use Rattle.tree.specs.Shape.{Shape, leaf_of, shape_for}
use Rattle.tree.specs.Order.{OpId, in_root}
use Rattle.tree.specs.Memory.{Memory, head_of, block, memory_of}
use Rattle.calls.specs.Answer.{margin}
use Rattle.calls.specs.Run.{RunResult, play, run}
use Rattle.calls.specs.Lists.{begin_put, begin_take, steps, op, lent}
use Rattle.calls.specs.All.{rules}

-- ---- what a row is made of

-- an answer: process, serial, own steps, helps, root block and reply, as the printing program has them
unfoldable pub answer : ℕ → ℕ → ℕ → ℕ → ℕ → Reply → AnswerRecord
answer k n own helps b r = record { process = k; reply = r; steps = own; helps = helps; serial = n; block = b }

-- what a row may say of what a run leaves
pub data Fact : Type 0 where
  -- root block b has these puts and these takes
  holds : ℕ → List OpId → List OpId → Fact
  -- the i-th take of root block b has this margin
  take_margin : ℕ → ℕ → ℤ → Fact
  -- the leaf of process k has this head
  leaf_head : ℕ → ℕ → Fact
  -- block i of node v has this number: that of the record that wrote it, 0 in block 0
  block_number : ℕ → ℕ → ℕ → Fact

-- a call of Run and what it must leave: p, L, the words of the table, the bytes of the answer buffer and the records;
-- the number returned, the records taken, the answers written, the whole answer buffer, and facts
pub record Row : Type 0 where
  pub p : ℕ
  pub most : ℕ
  pub words : ℕ
  pub room : ℕ
  pub records : List ℕ
  pub number : ℕ
  pub taken : ℕ
  pub answered : ℕ
  pub answers : List ℕ
  pub facts : List Fact

unfoldable pub row : ℕ → ℕ → ℕ → ℕ → List ℕ → ℕ → ℕ → List AnswerRecord → List Fact → Row
row p l words room records number taken log facts =
    record {
      p = p;
      most = l;
      words = words;
      room = room;
      records = records;
      number = number;
      taken = taken;
      answered = length log;
      answers = log_bytes log ++ lent (room - length (log_bytes log));
      facts = facts;
    }

-- ---- the known runs

pub known_runs : List Row
known_runs =
    -- M1 no records
    row 2 24 693 64 [] 0 0 [] []
    -- M2 the worked run of the printing program
    ∷ row 4 24 2065 64 (begin_put 7 0 ++ steps 31 0 ++ begin_take 1 ++ steps 31 1) 0 64 (answer 0 1 31 0 1 Done ∷ answer 1 1 31 0 2 (Value 7) ∷ [])
    (block_number 4 1 2 ∷ block_number 2 1 16 ∷ block_number 1 1 30 ∷ block_number 5 1 34 ∷ block_number 2 2 48 ∷ block_number 1 2 62 ∷ [])
    -- M3 block 1 holds both, steps 17 and 15, the take gets 5 at margin 0
    ∷ row 2 24 693 64 (begin_put 5 0 ++ begin_take 1 ++ steps 4 0 ++ steps 4 1 ++ steps 13 0 ++ steps 11 1) 0 34
    (answer 0 1 17 0 1 Done ∷ answer 1 1 15 0 1 (Value 5) ∷ [])
    (holds 1 (op 0 1 ∷ []) (op 1 1 ∷ []) ∷ take_margin 1 1 (pos 0) ∷ block_number 2 1 3 ∷ block_number 3 1 7 ∷ block_number 1 1 21 ∷ [])
    -- M4 a take alone: 17 steps, none at margin −1
    ∷ row 2 24 693 64 (begin_take 0 ++ steps 17 0) 0 18 (answer 0 1 17 0 1 Nothing ∷ []) (take_margin 1 1 (negsuc 0) ∷ [])
    -- M5 the take gets 10
    ∷ row 4 24 2065 64 (begin_put 10 1 ++ steps 18 1 ++ begin_put 20 0 ++ steps 31 0 ++ steps 11 1 ++ begin_take 2 ++ steps 31 2) 0 94
    (answer 0 1 31 0 1 Done ∷ answer 1 1 29 0 1 Done ∷ answer 2 1 31 0 2 (Value 10) ∷ [])
    (block_number 5 1 2 ∷ block_number 2 1 16 ∷ block_number 4 1 21 ∷ block_number 2 2 35 ∷ block_number 1 1 49 ∷ block_number 6 1 64 ∷ block_number 3 1 78 ∷ block_number 1 2 92 ∷ [])
    -- M6 both in block 1, the leaf head of 0 is 2; 1 help for process 1 and 0 for process 0
    ∷ row 2 24 693 64 (begin_put 9 0 ++ steps 1 0 ++ begin_put 8 1 ++ steps 20 1 ++ steps 14 0) 0 37
    (answer 1 1 20 1 1 Done ∷ answer 0 1 15 0 1 Done ∷ [])
    (holds 1 (op 0 1 ∷ op 1 1 ∷ []) [] ∷ leaf_head 0 2 ∷ block_number 2 1 2 ∷ block_number 3 1 4 ∷ block_number 1 1 21 ∷ block_number 1 0 0 ∷ [])
    -- M7 L = 1: the second begin is refused with 8, 18 taken
    ∷ row 2 1 49 64 (begin_put 1 0 ++ steps 17 0 ++ begin_put 2 0) 8 18 (answer 0 1 17 0 1 Done ∷ []) []
    -- M8 the first record a step: 7
    ∷ row 2 24 693 64 (steps 1 0) 7 0 [] []
    -- M9 L = 2, two begins: 6, 1 taken
    ∷ row 2 2 77 64 (begin_put 1 0 ++ begin_put 2 0) 6 1 [] []
    -- M10 15 answer bytes: 9, 17 taken
    ∷ row 2 24 693 15 (begin_put 1 0 ++ steps 17 0) 9 17 [] []
    -- M11 L = 1: 48 words refuse with 3, 49 do
    ∷ row 2 1 48 64 (begin_put 1 0 ++ steps 17 0) 3 0 [] []
    ∷ row 2 1 49 64 (begin_put 1 0 ++ steps 17 0) 0 18 (answer 0 1 17 0 1 Done ∷ []) []
    ∷ []

-- ---- the theorem

-- the fact of the same kind that is so of a table and of heads
unfoldable pub found : Shape → Memory → Fact → Fact
found s m (holds b xs ys) = holds b (in_root s m.table Puts b) (in_root s m.table Takes b)
found s m (take_margin b i z) = take_margin b i (margin s m.table b i)
found s m (leaf_head k h) = leaf_head k (head_of m (leaf_of s k))
found s m (block_number v i n) = block_number v i (block s m v i).number

-- the memory after a row's records: the table that Run leaves, and the heads
unfoldable pub memory_after : Row → RunResult → Memory
memory_after r e =
    memory_of e.table (play (shape_for r.p r.most) r.room (step_records r.records)).machine.memory.heads

-- a row with what the definitions give in the place of what it says
unfoldable pub recomputed : Row → Row
recomputed r =
    let e = run r.p r.most r.records (lent r.words) (lent r.room) in
    record {
      p = r.p;
      most = r.most;
      words = length e.table;
      room = length e.answers;
      records = r.records;
      number = e.refusal;
      taken = e.taken;
      answered = e.answered;
      answers = e.answers;
      facts = map (found (shape_for r.p r.most) (memory_after r e)) r.facts;
    }

pub known_runs_hold : map recomputed known_runs ≡ known_runs
unfolding rules begin_put begin_take steps op answer lent row known_runs found memory_after recomputed
known_runs_hold = refl
