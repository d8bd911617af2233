-- A step record is told by its two words: the first is its process, the second 0.
use Prim.Native.Nat.{ℕ, ◌+◌, ◌*◌, ◌≤◌, ◌<◌}
use native.Mathlib.Omega.{arith}
use mathlib.Core.Path.{◌≡◌, ap, ◌∙◌, sym, subst}
use mathlib.Core.Bool.{true, false, not, ◌&&◌, ◌||◌}
use mathlib.Core.List.{List}
use lib.ListN.{length, take, drop}
use lib.Seq.{take-take}
use lib.Dec.{ltb, leb, eqb}
use borrow.Author.Tests.{ltb-false, leb-false, lt-leb, eqb-true, not-false}
use Rattle.base.proofs.Cases.{or-false}
use Rattle.record.specs.declared.StepRecord.{StepRecord}
use Rattle.encoding.specs.Bytes.{number_of}
use Rattle.record.specs.StepRecords.{is_step, is_begin_put, step_record, ill_formed}
use Rattle.encoding.proofs.Numbers.{number_parts, part_of_part}
use Rattle.decode.specs.Clauses.Begins.{first_word}

-- the step record of process k
abbrev pub step_of : ℕ → StepRecord
step_of k = record { process = k; kind = 0; zeros = 0; value = 0 }

-- it is well-formed
pub step_formed : (p k : ℕ) → k < p → ill_formed p (step_of k) ≡ false
unfolding ill_formed is_begin_put
step_formed p k h = rw (lt-leb p k h)

-- what is known of a well-formed record
pub record Formed (p : ℕ) (r : StepRecord) : Type 0 where
  pub low : r.process < p
  pub kind : r.kind ≤ 2
  pub blank : r.zeros ≡ 0
  pub bare : is_begin_put r ≡ false → r.value ≡ 0

pub formed : (p : ℕ) (r : StepRecord) → ill_formed p r ≡ false → Formed p r
unfolding ill_formed
formed p r h =
    let a = or-false (leb p r.process || ltb 2 r.kind || not (eqb r.zeros 0)) (not (is_begin_put r) && not (eqb r.value 0)) h in
    let b = or-false (leb p r.process || ltb 2 r.kind) (not (eqb r.zeros 0)) a.0 in
    record {
      low = leb-false p r.process (or-false (leb p r.process) (ltb 2 r.kind) b.0).0;
      kind = ltb-false 2 r.kind (or-false (leb p r.process) (ltb 2 r.kind) b.0).1;
      blank = eqb-true _ _ (not-false (eqb r.zeros 0) b.1);
      bare = λ e. eqb-true _ _ (not-false (eqb r.value 0) (rw e at a.1));
    }

module _ (bs : List ℕ) (at : ℕ) (fits : at + 8 ≤ length bs) where
  abbrev r : StepRecord
  r = step_record (take 8 (drop at bs))

  abbrev pub word : ℕ → ℕ
  word i = number_of (take 4 (drop i bs))

  -- the first word is the process, and what follows it
  pub first_word_lem : word at ≡ first_word r
  unfolding step_record
  first_word_lem =
      let e : at + 1 + 1 ≡ at + 2 = omega arith in
      let rest : number_of (take 1 (drop (at + 1) bs)) + 256 * number_of (take 2 (drop (at + 2) bs)) ≡ number_of (take 3 (drop (at + 1) bs)) =
      subst (λ (j : ℕ). number_of (take 1 (drop (at + 1) bs)) + 256 * number_of (take 2 (drop j bs)) ≡ number_of (take 3 (drop (at + 1) bs))) e
      (number_parts 1 2 (at + 1) bs (omega arith))
      in
      rw (take-take 1 8 (drop at bs) (omega arith), part_of_part 1 1 8 at bs (omega arith), part_of_part 2 2 8 at bs (omega arith))
      (omega (arith, number_parts 1 3 at bs (omega arith), rest))

  pub second_word : word (at + 4) ≡ r.value
  unfolding step_record
  second_word = ap number_of (sym (part_of_part 4 4 8 at bs (omega arith)))

  -- words that tell a step
  pub words_step : word at < 256 → word (at + 4) ≡ 0 → r ≡ step_of (word at)
  words_step h e =
      let k : r.process ≡ word at = omega (arith, first_word_lem) in
      let a : r.kind ≡ 0 = omega (arith, first_word_lem) in
      let b : r.zeros ≡ 0 = omega (arith, first_word_lem) in
      let c : r.value ≡ 0 = sym second_word ∙ e in
      λ i. record { process = k i; kind = a i; zeros = b i; value = c i }

  -- a well-formed step has such words
  pub step_words : (p : ℕ) → ill_formed p r ≡ false → is_step r ≡ true → (word at < p) × (word (at + 4) ≡ 0)
  unfolding is_step is_begin_put
  step_words p h e =
      let f = formed p r h in
      let z : r.kind ≡ 0 = eqb-true _ _ e in
      (omega (arith, first_word_lem, f.low, f.blank), second_word ∙ f.bare (rw z))
