-- The answer of an operation, at its Q. With the root's size (tree, Size) this is what makes the tree a queue.
use Rattle.std.specs.Prelude.{ℕ, ◌+◌, ◌-◌, List, [], ◌∷◌, get_or, ℤ, pos, negsuc, ◌+ℤ◌, ◌-ℤ◌, if◌then◌else◌}
use Rattle.record.specs.declared.Reply.{Reply}
use Rattle.record.specs.declared.Reply.TheVariants.{Done, Value, Nothing}
use Rattle.record.specs.declared.AnswerRecord.{AnswerRecord}
use Rattle.tree.specs.declared.Kind.TheVariants.{Takes}
use Rattle.tree.specs.Shape.{Shape, root, leaf_of}
use Rattle.tree.specs.Blocks.{block_at}
use Rattle.tree.specs.Order.{OpId, in_root, root_puts}
use Rattle.tree.specs.Standing.{root_block_of, rank_in}
use Rattle.steps.specs.declared.Operation.{Operation}
use Rattle.steps.specs.declared.Operation.TheVariants.{Put, Take}
use Rattle.steps.specs.declared.Status.{Status}
use Rattle.steps.specs.declared.Status.TheVariants.{Idle, Busy}
use Rattle.steps.specs.Machine.{Machine, process_of, is_q}

-- margin of the i-th take of root block b: size of b − 1, plus puts of b alone, minus i, a signed number
unfoldable pub margin : Shape → List ℕ → ℕ → ℕ → ℤ
margin s t b i =
    let x = block_at s t root (b - 1) in
    let y = block_at s t root b in
    pos x.size +ℤ pos (y.puts - x.puts) -ℤ pos i

-- put number n in root order, from 1
unfoldable pub put_number : Shape → List ℕ → ℕ → OpId
put_number s t n = get_or (root_puts s t) (n - 1) (record { process = 0; serial = 0 })

-- the value of a put, which its leaf's block holds in end left
unfoldable pub value_of : Shape → List ℕ → OpId → ℕ
value_of s t x = (block_at s t (leaf_of s x.process) x.serial).left

-- below 0: none; otherwise the value
unfoldable pub by_margin : ℤ → ℕ → Reply
by_margin (negsuc z) x = Nothing
by_margin (pos z) x = Value x

-- the i-th take of root block b: the value is that of put number i + (puts up to b − 1) − (size of b − 1) in root order
unfoldable pub take_reply : Shape → List ℕ → ℕ → ℕ → Reply
take_reply s t b i =
    let x = block_at s t root (b - 1) in
    by_margin (margin s t b i) (value_of s t (put_number s t (i + x.puts - x.size)))

-- what operation x answers
unfoldable pub reply_of : Shape → List ℕ → OpId → Operation → Reply
reply_of s t x (Put v) = Done
reply_of s t x Take = let b = root_block_of s t x in take_reply s t b (rank_in x (in_root s t Takes b))

-- the answer record of process k's operation, whose last step is Q
unfoldable pub answer_of : Shape → Machine → ℕ → Operation → AnswerRecord
answer_of s m k o =
    let p = process_of m k in
    let t = m.memory.table in
    let x : OpId = record { process = k; serial = p.begun } in
    record {
      process = k;
      reply = reply_of s t x o;
      steps = p.steps + 1;
      helps = p.helps;
      serial = p.begun;
      block = root_block_of s t x;
    }

-- the answers that one step of process k gives, from its status: one at Q, else none
unfoldable pub answers_from : Shape → Machine → ℕ → Status → List AnswerRecord
answers_from s m k Idle = []
answers_from s m k (Busy o n) = if is_q n then answer_of s m k o ∷ [] else []

unfoldable pub answers_of : Shape → Machine → ℕ → List AnswerRecord
answers_of s m k = answers_from s m k (process_of m k).status
