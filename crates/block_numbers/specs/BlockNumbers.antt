-- When a block went in: what the numbers say of the blocks in the table words that a run leaves. Each is the number in
-- the whole list of the record that wrote the block, from 1; block 0 has 0.
use Rattle.std.specs.Prelude.{ℕ, ◌*◌, ◌-◌, ◌≤◌, ◌<◌, ◌≡◌, true, false, List, take}
use Rattle.base.specs.Members.{All}
use Rattle.record.specs.declared.StepRecord.{StepRecord}
use Rattle.record.specs.StepRecords.{step_records}
use Rattle.tree.specs.Shape.{Shape, processes, root, shape_for}
use Rattle.tree.specs.Layout.{words_needed}
use Rattle.tree.specs.Blocks.{block_at, absent}
use Rattle.tree.specs.Sides.{Side, child_of, subblocks}
use Rattle.calls.specs.Numbered.{numbered}
use Rattle.calls.specs.Run.{RunResult}
use Rattle.calls.specs.History.{machine_after}

-- the table that records leave
unfoldable pub table_after : Shape → List StepRecord → List ℕ
table_after s rs = (machine_after s (numbered rs)).memory.table

-- record n of a list wrote block i of node v: the records before it leave the place absent, those up to it leave it
-- present (so n is neither 0 nor past the list, for there the two are the same records)
pub record WrittenBy (s : Shape) (rs : List StepRecord) (v i n : ℕ) : Type 0 where
  pub before : absent (block_at s (table_after s (take (n - 1) rs)) v i) ≡ true
  pub after : absent (block_at s (table_after s (take n rs)) v i) ≡ false

-- the claims, on the records taken and the table words
pub record NumbersTell (s : Shape) (taken : List StepRecord) (t : List ℕ) : Type 0 where
  -- block 0 has 0
  pub zero : (v : ℕ) → root ≤ v → v < 2 * processes s → (block_at s t v 0).number ≡ 0
  -- the number of a present block is that of the record that wrote it
  pub written : (v i : ℕ) → root ≤ v → v < 2 * processes s → absent (block_at s t v i) ≡ false → WrittenBy s taken v i (block_at s t v i).number
  -- in each node the numbers rise strictly with place, from block 0 to the last present one
  pub rises : (v i j : ℕ) → root ≤ v → v < 2 * processes s → i < j → absent (block_at s t v j) ≡ false → (block_at s t v i).number < (block_at s t v j).number
  -- a block's number is above those of all its subblocks
  pub above : (d : Side) (v b : ℕ) → root ≤ v → v < processes s → absent (block_at s t v b) ≡ false
      → All (λ c. (block_at s t (child_of d v) c).number < (block_at s t v b).number) (subblocks s t d v b)

-- of a call of Run on some records: of those that it took and the needed words that it left
abbrev pub RunNumbers : ℕ → ℕ → List ℕ → RunResult → Type 0
RunNumbers p l records e =
    NumbersTell (shape_for p l) (take e.taken (step_records records)) (take (words_needed (shape_for p l)) e.table)
