-- What an answer record is made of, and what the reply of a take needs.
use Rattle.std.specs.Prelude.{ℕ, ◌+◌, ◌≤◌, List}
use Rattle.record.specs.declared.Reply.{Reply}
use Rattle.record.specs.declared.AnswerRecord.{AnswerRecord}
use Rattle.tree.specs.Shape.{Shape}
use Rattle.tree.specs.Order.{last_root}
use Rattle.steps.specs.declared.Process.{Process}
use Rattle.tree.specs.Clauses.SoundTree.{SoundTree}

-- the answer record of process k, which is q before its step Q
abbrev pub record_of : ℕ → Process → Reply → ℕ → AnswerRecord
record_of k q reply block =
    record { process = k; reply = reply; steps = q.steps + 1; helps = q.helps; serial = q.begun; block = block }

-- in a tree of shape s root block b is present, and i is the number of a take there, from 1
pub record TakeAt (s : Shape) (table : List ℕ) (b i : ℕ) (heads : List ℕ) : Type 0 where
  pub tree : SoundTree s heads table
  pub some : 1 ≤ b
  pub most : b ≤ last_root s table
  pub first : 1 ≤ i
