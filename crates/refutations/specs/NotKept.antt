-- Outcomes that demand 3 refuses: each clause of QueuePromises refutes some, and each weaker clause that a
-- mistakes/weak_*.edit puts in its place would let one of them pass.
use Rattle.std.specs.Prelude.{ℕ, zero, suc, ◌+◌, ◌*◌, ◌≤◌, ◌<◌, ◌≡◌, refl, true, false, List, [], ◌∷◌, ◌++◌, map, length, replicate}
use Rattle.std.proofs.Common.{arith, ap, sym, ◌∙◌, true≢false}
use Rattle.base.specs.Members.{All}
use Rattle.record.specs.declared.StepRecord.{StepRecord}
use Rattle.record.specs.StepRecords.{step_records}
use Rattle.record.specs.AnswerRecords.{log_bytes}
use Rattle.tree.specs.Shape.{Shape, root}
use Rattle.tree.specs.Blocks.{block_at}
use Rattle.tree.specs.Order.{OpId, last_root, root_operations}
use Rattle.tree.specs.Standing.{times, stands_in}
use Rattle.steps.specs.declared.Operation.{Operation}
use Rattle.steps.specs.declared.Operation.TheVariants.{Put, Take}
use Rattle.calls.specs.CheckLog.{same_bytes}
use Rattle.calls.specs.History.{Event, opens, moves, finishes, operation, is_opened, finished_before, own_steps}
use Rattle.calls.specs.Demand3.{queue_after, queue_record, finishing, step_limit, QueuePromises, Demand3}
use Rattle.calls.specs.Lists.{begin_put, begin_take, steps}
use Rattle.calls.specs.All.{rules}

-- ---- what an outcome is made of

-- the shape of height H with L = l
abbrev pub shape : ℕ → ℕ → Shape
shape H l = record { height = H; most = l }

-- the first operations of processes 0 and 1, and the second of process 0
abbrev pub x : OpId
x = operation 0 1

abbrev pub y : OpId
y = operation 1 1

abbrev pub x2 : OpId
x2 = operation 0 2

-- the words of a block: puts, takes, end left, end right and size; super and number, which no clause reads, are 0
abbrev pub block_with : ℕ → ℕ → ℕ → ℕ → ℕ → List ℕ
block_with puts takes left right size = puts ∷ takes ∷ 0 ∷ left ∷ right ∷ size ∷ 0 ∷ []

abbrev pub none : List ℕ
none = block_with 0 0 0 0 0

-- the words of block 1 of a leaf: a put of n, a take
abbrev pub put_block : ℕ → List ℕ
put_block n = block_with 1 0 n 0 0

abbrev pub take_block : List ℕ
take_block = block_with 0 1 0 0 0

-- the table words at H = 1, L = 1: root blocks 1 and 2, and block 1 of either leaf; each block 0 is all zero
abbrev pub table : List ℕ → List ℕ → List ℕ → List ℕ → List ℕ
table root1 root2 left right = none ++ root1 ++ root2 ++ none ++ left ++ none ++ right

-- at H = 1, L = 2: root blocks 1 to 3, and blocks 1 and 2 of the left leaf; the right leaf is empty
abbrev pub table2 : List ℕ → List ℕ → List ℕ → List ℕ → List ℕ → List ℕ
table2 root1 root2 root3 left1 left2 = none ++ root1 ++ root2 ++ root3 ++ none ++ none ++ left1 ++ left2 ++ none ++ none ++ none

-- the bytes of an answer: process, kind, steps, helps, value, serial and root block
abbrev pub bytes : ℕ → ℕ → ℕ → ℕ → ℕ → ℕ → ℕ → List ℕ
bytes k c n u v i b = k ∷ c ∷ n ∷ u ∷ v ∷ 0 ∷ 0 ∷ 0 ∷ i ∷ 0 ∷ 0 ∷ 0 ∷ b ∷ 0 ∷ 0 ∷ 0 ∷ []

-- x is opened and takes n steps, none of them a help; then what follows
abbrev pub stepping : ℕ → List Event → List Event
stepping n after = opens x Take ∷ replicate n (moves x false) ++ after

-- demand 3 does not hold of this history and these table words, whatever the answer bytes are
abbrev pub Refuted : Shape → List Event → List ℕ → Type 0
Refuted s h t = (log : List ℕ) → QueuePromises s h log t → ⊥

-- ---- each finished operation stands in the root order exactly once, any other at most once, nothing else

-- finishedOnce: x finished, a put or a take, and stands in no root block, whatever the leaves hold
pub lost : (o : Operation) (left right : List ℕ) → Refuted (shape 1 1) (opens x o ∷ finishes x ∷ []) (table none none left right)
unfolding rules
lost o left right log k = omega (arith, k.finished_once x refl)

-- atMostOnce: x has not finished, and stands in root blocks 1 and 3, as the end in block 2 goes back from 1 to e = 0
abbrev pub three_blocks : ℕ → List ℕ
three_blocks e = table2 (block_with 1 0 1 0 1) (block_with 2 0 e 0 1) (block_with 3 0 1 0 2) (put_block 7) none

pub twice : Refuted (shape 1 2) (opens x (Put 7) ∷ []) (three_blocks 0)
unfolding rules
twice log k = omega (arith, k.at_most_once x)

-- atMostOnce: x stands in root block 1 as a put and as a take, as its leaf's block adds both
pub of_both_kinds : Refuted (shape 1 1) (opens x (Put 7) ∷ []) (table (block_with 1 1 1 0 2) none (block_with 1 1 7 0 0) none)
unfolding rules
of_both_kinds log k = omega (arith, k.at_most_once x)

-- nothingElse: x stands in root block 1, and no record opened it: none opened any; one opened an operation of another
-- process; one opened another of its process
abbrev pub without_x : List (List Event)
without_x = [] ∷ (opens y Take ∷ []) ∷ (opens x2 Take ∷ []) ∷ []

abbrev pub take_of_x : List ℕ
take_of_x = table (block_with 0 1 1 0 0) none take_block none

pub unopened : All (λ h. Refuted (shape 1 1) h take_of_x) without_x
unfolding rules
unopened = (on refl, (on refl, (on refl, tt)))
  where
    on : {h : List Event} → is_opened x h ≡ false → Refuted (shape 1 1) h take_of_x
    on e log k = true≢false (sym (k.nothing_else x (omega arith)) ∙ e)

-- ---- the answers are those of the plain queue fed the root order, in the order of the Q's

-- a put of 7 in root block 1 and a take in root block 2; the take's Q comes first, and its one step before it is a help
abbrev pub overlapping : List Event
overlapping = opens x (Put 7) ∷ opens y Take ∷ moves x false ∷ moves y true ∷ finishes y ∷ moves x false ∷ finishes x ∷ []

abbrev pub in_two_blocks : List ℕ
in_two_blocks = table (block_with 1 0 1 0 1) (block_with 1 1 1 1 0) (put_block 7) take_block

abbrev pub right_log : List ℕ
right_log = bytes 1 2 2 1 7 1 2 ++ bytes 0 1 3 0 0 1 1

abbrev pub wrong_logs : List (List ℕ)
wrong_logs =
    -- the take got another value, or none; the put has the kind of a take
    (bytes 1 2 2 1 8 1 2 ++ bytes 0 1 3 0 0 1 1)
    ∷ (bytes 1 3 2 1 0 1 2 ++ bytes 0 1 3 0 0 1 1)
    ∷ (bytes 1 2 2 1 7 1 2 ++ bytes 0 3 3 0 0 1 1)
    -- a step too few; a help too few, a help too many; another serial, root block and process
    ∷ (bytes 1 2 1 1 7 1 2 ++ bytes 0 1 3 0 0 1 1)
    ∷ (bytes 1 2 2 0 7 1 2 ++ bytes 0 1 3 0 0 1 1)
    ∷ (bytes 1 2 2 1 7 1 2 ++ bytes 0 1 3 1 0 1 1)
    ∷ (bytes 1 2 2 1 7 2 2 ++ bytes 0 1 3 0 0 1 1)
    ∷ (bytes 1 2 2 1 7 1 1 ++ bytes 0 1 3 0 0 1 1)
    ∷ (bytes 1 2 2 1 7 1 2 ++ bytes 1 1 3 0 0 1 1)
    -- the answers in root order; one lacking; one too many
    ∷ (bytes 0 1 3 0 0 1 1 ++ bytes 1 2 2 1 7 1 2)
    ∷ bytes 1 2 2 1 7 1 2
    ∷ (right_log ++ bytes 0 1 3 0 0 1 1)
    ∷ []

-- answered: no other log will do
pub no_other_log : (log : List ℕ) → QueuePromises (shape 1 1) overlapping log in_two_blocks → log ≡ right_log
unfolding rules
no_other_log log k = k.answered

unequal : (right log : List ℕ) → same_bytes right right ≡ true → same_bytes log right ≡ false → log ≡ right → ⊥
unequal right log a b e = true≢false (sym a ∙ sym (ap (λ (l : List ℕ). same_bytes l right) e) ∙ b)

none_of : (logs : List (List ℕ)) → map (λ log. same_bytes log right_log) logs ≡ map (λ log. false) logs
    → All (λ log. QueuePromises (shape 1 1) overlapping log in_two_blocks → ⊥) logs
unfolding rules
none_of [] e = tt
none_of (log ∷ logs) e = ((λ k. unequal right_log log refl (cc) (no_other_log log k)), none_of logs (cc))

pub wrong_answers : All (λ log. QueuePromises (shape 1 1) overlapping log in_two_blocks → ⊥) wrong_logs
unfolding rules
wrong_answers = none_of wrong_logs refl

-- ---- and the queue ends with as many values as the last root block says

-- a put that has not finished in root block 1, one that has in root block 2, whose size is n
abbrev pub two_puts : List Event
two_puts = opens x (Put 7) ∷ opens y (Put 8) ∷ finishes y ∷ []

abbrev pub last_size : ℕ → List ℕ
last_size n = table (block_with 1 0 1 0 1) (block_with 2 0 1 1 n) (put_block 7) (put_block 8)

-- endSize: no other size than 2 will do; one too large, one too small
pub no_other_size : (n : ℕ) (log : List ℕ) → QueuePromises (shape 1 1) two_puts log (last_size n) → n ≡ 2
unfolding rules
no_other_size n log k = omega (arith, k.end_size)

pub too_large : Refuted (shape 1 1) two_puts (last_size 3)
too_large log k = omega (arith, no_other_size 3 log k)

pub too_small : Refuted (shape 1 1) two_puts (last_size 1)
too_small log k = omega (arith, no_other_size 1 log k)

-- ---- what finished before another began stands in an earlier block

-- a put that finished before a take began
abbrev pub apart : List Event
apart = opens x (Put 7) ∷ finishes x ∷ opens y Take ∷ finishes y ∷ []

-- realTime: both in one block, where the put comes first in root order all the same
pub in_one_block : Refuted (shape 1 1) apart (table (block_with 1 1 1 1 0) none (put_block 7) take_block)
unfolding rules
in_one_block log k = omega (arith, k.real_time x y 1 1 (omega arith) (omega arith) refl (omega arith) (omega arith))

-- realTime: the take in the earlier block
pub turned_round : Refuted (shape 1 1) apart (table (block_with 0 1 0 1 0) (block_with 1 1 1 1 1) (put_block 7) take_block)
unfolding rules
turned_round log k = omega (arith, k.real_time x y 2 1 (omega arith) (omega arith) refl (omega arith) (omega arith))

-- realTime: a take that finished before a put began, both in one block; the put has not finished, and the take gets 7
abbrev pub take_then_put : List Event
take_then_put = opens x Take ∷ finishes x ∷ opens y (Put 7) ∷ []

pub value_to_come : Refuted (shape 1 1) take_then_put (table (block_with 1 1 1 1 0) none take_block (put_block 7))
unfolding rules
value_to_come log k = omega (arith, k.real_time x y 1 1 (omega arith) (omega arith) refl (omega arith) (omega arith))

-- realTime: two operations of one process in one block
abbrev pub in_turn : List Event
in_turn = opens x (Put 7) ∷ finishes x ∷ opens x2 Take ∷ finishes x2 ∷ []

pub of_one_process : Refuted (shape 1 2) in_turn (table2 (block_with 1 1 2 0 0) none none (put_block 7) (block_with 1 1 0 0 0))
unfolding rules
of_one_process log k = omega (arith, k.real_time x x2 1 1 (omega arith) (omega arith) refl (omega arith) (omega arith))

-- ---- no operation takes more than 40H + 1 steps of its own

pub counted : (n : ℕ) (after : List Event) → own_steps x (replicate n (moves x false) ++ after) ≡ n + own_steps x after
unfolding rules
counted zero after = omega arith
counted (suc n) after = omega (arith, counted n after)

-- stepsBounded: x takes more than that, at any H, whatever the table words are
pub too_many : (s : Shape) (t : List ℕ) (n : ℕ) (after : List Event) → 40 * s.height + 1 < n + own_steps x after → Refuted s (stepping n after) t
unfolding rules
too_many s t n after l log k = omega (arith, counted n after, k.steps_bounded x)

-- 42 at H = 1, no Q among them, and 82 at H = 2, the last of them Q
pub steps42 : (t : List ℕ) → Refuted (shape 1 1) (stepping 42 []) t
unfolding rules
steps42 t = too_many (shape 1 1) t 42 [] (omega arith)

pub steps82 : (t : List ℕ) → Refuted (shape 2 1) (stepping 81 (finishes x ∷ [])) t
unfolding rules
steps82 t = too_many (shape 2 1) t 81 (finishes x ∷ []) (omega arith)

-- ---- with the one thing put right, what the clause says is so

-- x in root block 1; the end in block 2 kept at 1; x opened; the right log; size 2; the put in root block 1 and the
-- take in root block 2; 41 and 81 steps
pub put_right :
    (times x (root_operations (shape 1 1) (table (block_with 1 0 1 0 1) none (put_block 7) none)) ≡ 1)
    × (times x (root_operations (shape 1 2) (three_blocks 1)) ≡ 1)
    × (is_opened x (opens x Take ∷ []) ≡ true)
    × (right_log ≡ log_bytes (map (queue_record (shape 1 1) in_two_blocks overlapping) (finishing overlapping)))
    × (length (queue_after two_puts [] (root_operations (shape 1 1) (last_size 2))) ≡ (block_at (shape 1 1) (last_size 2) root (last_root (shape 1 1) (last_size 2))).size)
    × (stands_in (shape 1 1) in_two_blocks x 1 ≡ 1)
    × (stands_in (shape 1 1) in_two_blocks y 2 ≡ 1)
    × (step_limit (shape 1 1) ≡ 41)
    × (step_limit (shape 2 1) ≡ 81)
unfolding rules
put_right = (refl, refl, refl, refl, refl, refl, refl, refl, refl)

-- ---- step records in the place of a history

-- a put of 7 by process 0, then a take by 1, 17 steps each
abbrev pub put_then_take : List StepRecord
put_then_take = step_records (begin_put 7 0 ++ steps 17 0 ++ begin_take 1 ++ steps 17 1)

-- the table cleared and left
pub cleared : (log : List ℕ) → Demand3 2 1 put_then_take log (replicate 49 0) → ⊥
unfolding rules begin_put begin_take steps
cleared log k = omega (arith, k.finished_once x refl)

-- every take 'none'
pub every_take_none : Demand3 2 1 put_then_take (bytes 0 1 17 0 0 1 1 ++ bytes 1 3 17 0 0 1 2) in_two_blocks → ⊥
unfolding rules begin_put begin_take steps
every_take_none k = unequal (bytes 0 1 17 0 0 1 1 ++ bytes 1 2 17 0 7 1 2) _ refl refl k.answered

-- ---- what demand 3 says of every tree, history, log and table: no less
module _ (s : Shape) (h : List Event) (log t : List ℕ) (k : QueuePromises s h log t) where
  pub says_log : log ≡ log_bytes (map (queue_record s t h) (finishing h))
  says_log = k.answered

  pub says_size : length (queue_after h [] (root_operations s t)) ≡ (block_at s t root (last_root s t)).size
  says_size = k.end_size

  pub says_earlier : (v w : OpId) (b c : ℕ) → b ≤ last_root s t → c ≤ last_root s t → finished_before v w h ≡ true → 1 ≤ stands_in s t v b → 1 ≤ stands_in s t w c → b < c
  says_earlier = k.real_time
