-- Numbers that NumbersTell refuses, in tables of p = 2 and L = 1. Each is refused by one clause; a weaker clause that a
-- mistakes/weak_numbers_*.edit puts in its place would by itself let it pass.
use Rattle.std.specs.Prelude.{ℕ, refl, List, [], ◌∷◌, ◌++◌}
use Rattle.std.proofs.Common.{arith, true≢false}
use Rattle.std.proofs.lemmas.Bool.{false≢true}
use Rattle.record.specs.declared.StepRecord.{StepRecord}
use Rattle.record.specs.StepRecords.{step_records}
use Rattle.tree.specs.Shape.{shape_for}
use Rattle.tree.specs.Sides.{onLeft, onRight}
use Rattle.calls.specs.Lists.{begin_put, steps}
use Rattle.calls.specs.All.{rules}
use Rattle.block_numbers.specs.BlockNumbers.{table_after, NumbersTell}

-- ---- tables

-- a block of so many puts, with these ends and this number; the words that no claim here reads are 0
abbrev block_with : ℕ → ℕ → ℕ → ℕ → List ℕ
block_with puts left right n = puts ∷ 0 ∷ 0 ∷ left ∷ right ∷ 0 ∷ n ∷ []

abbrev none : List ℕ
none = block_with 0 0 0 0

-- block 0, 1 and 2 of the root, and block 1 of each leaf
abbrev table : List ℕ → List ℕ → List ℕ → List ℕ → List ℕ → List ℕ
table zero one two left right = zero ++ one ++ two ++ none ++ left ++ none ++ right

-- the claims do not hold of this table, whatever the records taken are
abbrev Refuted : List ℕ → Type 0
Refuted t = (taken : List StepRecord) → NumbersTell (shape_for 2 1) taken t → ⊥

-- ---- numbers

-- the root's block 0 has a number
pub zero_numbered : Refuted (table (block_with 0 0 0 3) none none none none)
unfolding rules
zero_numbered taken c = omega (arith, c.zero 1 (omega arith) (omega arith))

-- two root blocks have one number
pub equal_numbers : Refuted (table none (block_with 1 1 0 16) (block_with 2 1 1 16) (block_with 1 5 0 2) (block_with 1 6 0 4))
unfolding rules
equal_numbers taken c = omega (arith, c.rises 1 1 2 (omega arith) (omega arith) (omega arith) refl)

-- a leaf's block has number 0, as its block 0 has
pub leaf_unnumbered : Refuted (table none (block_with 1 1 0 16) none (block_with 1 5 0 0) none)
unfolding rules
leaf_unnumbered taken c = omega (arith, c.rises 2 0 1 (omega arith) (omega arith) (omega arith) refl)

-- a root block has the number of its subblock, on the left and on the right
pub subblock_left : Refuted (table none (block_with 1 1 0 16) none (block_with 1 5 0 16) none)
unfolding rules
subblock_left taken c = omega (arith, (c.above onLeft 1 1 (omega arith) (omega arith) refl).0)

pub subblock_right : Refuted (table none (block_with 1 0 1 16) none none (block_with 1 5 0 16))
unfolding rules
subblock_right taken c = omega (arith, (c.above onRight 1 1 (omega arith) (omega arith) refl).0)

-- ---- records

-- the records of a put alone, of which record 2 does A, record 15 C3N and record 16 C4; and the table that they leave,
-- but for super and size, which no claim reads, and the number of the root's block
abbrev put_alone : List StepRecord
put_alone = step_records (begin_put 5 0 ++ steps 17 0)

abbrev root_number : ℕ → List ℕ
root_number n = table none (block_with 1 1 0 n) none (block_with 1 5 0 2) none

-- that of C3N, after which no block is there; that of the record after C4; one past the list; none
pub by_c3_n : NumbersTell (shape_for 2 1) put_alone (root_number 15) → ⊥
unfolding rules begin_put steps table_after
by_c3_n c = true≢false (c.written 1 1 (omega arith) (omega arith) refl).after

pub after_c4 : NumbersTell (shape_for 2 1) put_alone (root_number 17) → ⊥
unfolding rules begin_put steps table_after
after_c4 c = false≢true (c.written 1 1 (omega arith) (omega arith) refl).before

pub past_the_list : NumbersTell (shape_for 2 1) put_alone (root_number 19) → ⊥
unfolding rules begin_put steps table_after
past_the_list c = false≢true (c.written 1 1 (omega arith) (omega arith) refl).before

pub by_none : NumbersTell (shape_for 2 1) put_alone (root_number 0) → ⊥
unfolding rules begin_put steps table_after
by_none c = true≢false (c.written 1 1 (omega arith) (omega arith) refl).after
