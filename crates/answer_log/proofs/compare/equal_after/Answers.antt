-- `compare::equal_after` meets its contract. The record of the log at the answer's place decides.
use Prim.Native.Nat.{ℕ, ◌*◌}
use native.Mathlib.Omega.{arith}
use mathlib.Core.Path.{◌≡◌, refl, ap, sym, ◌∙◌}
use mathlib.Core.Bool.{Bool, ◌&&◌}
use mathlib.Core.List.{List, [], ◌∷◌}
use lib.Dec.{eqb}
use lib.ListN.{take, drop}
use lib.Pointwise.{pointwise}
use borrow.Author.Tests.{eq-eqb, ne_eqb}
use Rattle.std.proofs.lemmas.List.{take_all}
use Rattle.record.specs.declared.AnswerRecord.{AnswerRecord}
use Rattle.record.specs.AnswerRecords.{answer_size, bytes_of_answer}
use Rattle.record.proofs.Lengths.{answer_length}
use Rattle.calls.specs.CheckLog.{same_bytes}
use Rattle.calls.specs.LogVerdict.{record_at}
use Rattle.answer_log.specs.Clauses.Leading.{count_after}
use Rattle.answer_log.proofs.Cuts.{no_record_lem}
use Rattle.answer_log.proofs.compare.equal_after.Goals.{After-eq}
use Rattle.answer_log.proofs.compare.equal_after.Goals as goal

-- slices are equal when they are so byte for byte
slices_same : (xs ys : List ℕ) → pointwise eqb xs ys ≡ same_bytes xs ys
unfolding same_bytes
slices_same [] [] = refl
slices_same [] (y ∷ ys) = refl
slices_same (x ∷ xs) [] = refl
slices_same (x ∷ xs) (y ∷ ys) = ap (λ (b : Bool). eqb x y && b) (slices_same xs ys)

-- Whatever bounds the code names, bytes of a log are its record n where they begin at its place and are sixteen.
all_of_record : (log : List ℕ) (n size at : ℕ) → at ≡ 16 * n → size ≡ 16 → take size (drop at log) ≡ record_at n log
unfolding record_at answer_size
all_of_record log n size at e f = rw (e, f)

-- sixteen of an answer's bytes from the first on are all
all_of_answer : (a : AnswerRecord) (bytes : List ℕ) → bytes ≡ bytes_of_answer a → (size : ℕ) → size ≡ 16 → take size bytes ≡ bytes_of_answer a
unfolding answer_size
all_of_answer a bytes e size f = rw (e, f) (take_all 16 (bytes_of_answer a) (omega (arith, answer_length a)))

-- what a test of two slices tells, when the one is a record of a log and the other an answer's bytes
compared_as : (xs ys log : List ℕ) (n : ℕ) (a : AnswerRecord) (b : Bool) → b ≡ same_bytes xs ys → ys ≡ record_at n log → xs ≡ bytes_of_answer a
    → same_bytes (bytes_of_answer a) (record_at n log) ≡ b
compared_as xs ys log n a b test e f = rw (← e, ← f) (sym test)

-- and what the code's test tells
told : (c : After-eq) → same_bytes (bytes_of_answer c.args.a) (record_at c.args.n c.args.log.now) ≡ c.eq.result
told c =
    let test = rw slices_same at c.eq.ensures in
    let place = all_of_record c.args.log.now c.args.n in
    let bytes = c.from-bytes.ensures in
    let answer = all_of_answer c.args.a _ bytes in
    compared_as _ _ _ _ c.args.a _ test (place _ _ (omega arith) (omega arith)) (grind (arith, answer, bytes))

pub returns-then-equal-n : goal.returns-then-equal-n
unfolding count_after
returns-then-equal-n c = rw (ne_eqb _ _ c.if-equal-n.true)

pub returns-then-log-at : goal.returns-then-log-at
unfolding count_after answer_size
returns-then-log-at c =
    rw (no_record_lem c.args.log.now c.args.n c.args.a c.if-log-at.true, eq-eqb _ _ c.if-equal-n.false)

pub returns-then-eq : goal.returns-then-eq
unfolding count_after
returns-then-eq c = rw (told (goal.at.returns-then-eq c).After-eq ∙ c.if-eq.true, eq-eqb _ _ c.if-equal-n.false)

pub returns : goal.returns
unfolding count_after
returns c = rw (told (goal.at.returns c).After-eq ∙ c.if-eq.false, eq-eqb _ _ c.if-equal-n.false)
