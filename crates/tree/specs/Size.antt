-- The size of a root block: the one rule of the tree that knows that the operations are a queue's.
use Rattle.std.specs.Prelude.{ℕ, ◌+◌, ◌-◌}
use Rattle.tree.specs.declared.Block.{Block}

-- root size = the larger of 0 and (old size + new puts − new takes), where the totals of the block before, old, become
-- puts and takes; a difference of natural numbers is never below 0
unfoldable pub root_size : Block → ℕ → ℕ → ℕ
root_size old puts takes = old.size + (puts - old.puts) - (takes - old.takes)
