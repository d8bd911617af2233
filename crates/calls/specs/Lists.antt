-- Lists of step records, operations and lent buffers, as known runs and refutations write them.
use Rattle.std.specs.Prelude.{ℕ, zero, suc, List, [], ◌∷◌, ◌++◌, replicate}
use Rattle.encoding.specs.Bytes.{bytes_of}
use Rattle.tree.specs.Order.{OpId}

-- the bytes of a begin put of x by process k, of a begin take, and of n steps
unfoldable pub begin_put : ℕ → ℕ → List ℕ
begin_put x k = k ∷ 1 ∷ 0 ∷ 0 ∷ bytes_of 4 x

unfoldable pub begin_take : ℕ → List ℕ
begin_take k = k ∷ 2 ∷ 0 ∷ 0 ∷ bytes_of 4 0

unfoldable pub steps : ℕ → ℕ → List ℕ
steps zero k = []
steps (suc n) k = k ∷ 0 ∷ 0 ∷ 0 ∷ bytes_of 4 0 ++ steps n k

-- an operation, by process and serial
unfoldable pub op : ℕ → ℕ → OpId
op k n = record { process = k; serial = n }

-- the buffers are lent with no byte and no word zero, and what is not written stays so
unfoldable pub lent : ℕ → List ℕ
lent n = replicate n 255
