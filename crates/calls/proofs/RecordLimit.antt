-- The limit on the records of a run, and on its answers. Over every legal list, for general H: the records so far, and
-- what the processes may still take, are within the limit for each operation begun; and each operation begun has
-- answered, or its process is inside it.
use Rattle.std.specs.Prelude.{if◌then◌else◌}
use Prim.Native.Nat.{ℕ, ◌+◌, ◌*◌, ◌≤◌, ◌<◌}
use native.Mathlib.Omega.{arith}
use mathlib.Core.Path.{◌≡◌, refl, ap, sym, ◌∙◌, subst}
use mathlib.Core.Bool.{Bool, true, false, ◌&&◌}
use mathlib.Core.List.{List, [], ◌∷◌, ◌++◌, map-append}
use lib.Dec.{eqb}
use lib.ListN.{length, length-append}
use Rattle.base.specs.Members.{All}
use Rattle.base.proofs.Members.{all_append}
use Rattle.record.specs.declared.StepRecord.{StepRecord}
use Rattle.record.specs.StepRecords.{is_step, is_begin}
use Rattle.tree.specs.Shape.{Shape, processes}
use Rattle.steps.specs.Machine.{Machine, is_q}
use Rattle.steps.specs.declared.Step.TheVariants.{A}
use Rattle.steps.proofs.Costs.{rest, rest_first}
use Rattle.steps.proofs.Overall.{remaining, busy as busy_in, start_remaining, start_busy, begin_remaining, begin_busy, step_remaining, step_busy}
use Rattle.calls.specs.Answer.{answer_of}
use Rattle.calls.specs.Numbered.{Numbered, numbered}
use Rattle.calls.specs.Run.{operation_of, record_answers}
use Rattle.calls.specs.History.{begun_by, course_start, course_after, machine_after, history}
use Rattle.calls.specs.Demand3.{step_limit}
use Rattle.calls.specs.Forecast.{record_limit, begins, begin_records}
use Rattle.calls.proofs.Numbers.{items, items_numbered}
use Rattle.calls.proofs.Legal.{Accepted, Legal, none, more, answers_after, answers_along, not_step, not_begin}
use Rattle.calls.proofs.Histories.{machine_snoc, answers_snoc, begins_snoc, begun_snoc}
use Rattle.calls.proofs.Runs.{Run, runs, taken_begin, none_answered, busy, taken_step, answered}
use Rattle.calls.proofs.BeginRecords.{one_or_none, begin_records_snoc, begins_most}

-- records that begin so many operations
pub record Spent (s : Shape) (ns : List Numbered) (begun : ℕ) : Type 0 where
  -- the records so far, and what the processes may still take
  pub records : length ns + remaining s (machine_after s ns) ≤ begun * record_limit s
  -- the answers given, and the processes inside an operation
  pub answers : length (answers_along s ns) + busy_in s (machine_after s ns) ≡ begun

-- ---- no records
none_spent : (s : Shape) → Spent s [] 0
unfolding machine_after course_after course_start answers_along answers_after begin_records
none_spent s = record { records = omega (arith, start_remaining s); answers = omega (arith, start_busy s) }

-- ---- one record more
abbrev begun_in : List Numbered → ℕ
begun_in ns = length (begin_records (items ns))

more_begins : (ns : List Numbered) (n : Numbered) → begun_in (ns ++ (n ∷ [])) ≡ begun_in ns + (if is_begin n.item then 1 else 0)
more_begins ns n = ap (λ (l : List StepRecord). length (begin_records l)) (map-append (λ (x : Numbered). x.item) ns (n ∷ [])) ∙ begin_records_snoc (items ns) n.item

module _ (s : Shape) (tall : 1 ≤ s.height) (ns : List Numbered) (n : Numbered) (run : Run s ns) (acc : Accepted s (machine_after s ns) n.item) (spent : Spent s ns (begun_in ns)) where
  abbrev r : StepRecord
  r = n.item

  abbrev m : Machine
  m = machine_after s ns

  longer : length (ns ++ (n ∷ [])) ≡ length ns + 1
  longer = length-append ns (n ∷ [])

  answers_more : length (answers_along s (ns ++ (n ∷ []))) ≡ length (answers_along s ns) + length (record_answers s m r)
  answers_more = ap length (answers_snoc s ns n) ∙ length-append (answers_along s ns) _

  limit_first : record_limit s ≡ rest s A + 1
  unfolding record_limit step_limit
  limit_first = omega (arith, rest_first s tall)

  begin_spent : is_step r ≡ false → Spent s (ns ++ (n ∷ [])) (begun_in (ns ++ (n ∷ [])))
  begin_spent z =
      let b : is_begin r ≡ true = not_step r z in
      let taken = machine_snoc s ns n ∙ taken_begin s tall ns n run acc z in
      let more-begun : begun_in (ns ++ (n ∷ [])) ≡ begun_in ns + 1 = more_begins ns n ∙ rw b in
      let of-begin = begin_remaining s m run.invariant r.process acc.process_low (operation_of r) (acc.idle b) (acc.within b) in
      let of-busy = begin_busy s m run.invariant r.process acc.process_low (operation_of r) (acc.idle b) (acc.within b) in
      record {
        records = omega (arith, spent.records, longer, ap (λ (n : ℕ). n * record_limit s) more-begun, ap (remaining s) taken, of-begin, limit_first);
        answers = omega (arith, spent.answers, more-begun, answers_more, ap length (none_answered s tall ns n run acc z), ap (busy_in s) taken, of-busy);
      }

  step_spent : is_step r ≡ true → Spent s (ns ++ (n ∷ [])) (begun_in (ns ++ (n ∷ [])))
  step_spent z =
      let at = busy s tall ns n run acc z in
      let taken = machine_snoc s ns n ∙ taken_step s tall ns n run acc z in
      let as-begun : begun_in (ns ++ (n ∷ [])) ≡ begun_in ns = more_begins ns n ∙ rw (not_begin r z) (omega arith) in
      let of_step = step_remaining s tall n.number m run.invariant r.process acc.process_low at.0 at.1 at.2 in
      let of-busy = step_busy s tall n.number m run.invariant r.process acc.process_low at.0 at.1 at.2 in
      record {
        records = omega (arith, spent.records, longer, ap (λ (n : ℕ). n * record_limit s) as-begun, ap (remaining s) taken, of_step);
        answers =
            omega (
              arith,
              spent.answers,
              as-begun,
              answers_more,
              ap length (answered s tall ns n run acc z),
              one_or_none (is_q at.1) (answer_of s m r.process at.0),
              ap (busy_in s) taken,
              of-busy,
            );
      }

  record_spent : Spent s (ns ++ (n ∷ [])) (begun_in (ns ++ (n ∷ [])))
  record_spent = on (is_step r) refl
    where
      on : (b : Bool) → is_step r ≡ b → Spent s (ns ++ (n ∷ [])) (begun_in (ns ++ (n ∷ [])))
      on true z = step_spent z
      on false z = begin_spent z

-- ---- every legal list
spent : (s : Shape) → 1 ≤ s.height → {ns : List Numbered} → Legal s ns → Spent s ns (begun_in ns)
unfolding begin_records
spent s tall none = none_spent s
spent s tall (more {ns} n l a) = record_spent s tall ns n (runs s tall l) a (spent s tall l)

legal_low : (s : Shape) → {ns : List Numbered} → Legal s ns → All (λ r. r.process < processes s) (items ns)
legal_low s none = tt
legal_low s (more {ns} n l a) =
    rw (map-append (λ (x : Numbered). x.item) ns (n ∷ [])) (all_append (λ r. r.process < processes s) (items ns) (n.item ∷ []) (legal_low s l) (a.process_low, tt))

-- the operations that a process has opened are its begins
pub legal_begun : (s : Shape) (k : ℕ) → {ns : List Numbered} → Legal s ns → begun_by k (history s ns) ≡ begins k (items ns)
unfolding begun_by begins history course_after course_start
legal_begun s k none = refl
legal_begun s k (more {ns} n l a) =
    begun_snoc s k ns n ∙ ap (λ (i : ℕ). i + (if is_begin n.item && eqb n.item.process k then 1 else 0)) (legal_begun s k l)
    ∙ sym (ap (begins k) (map-append (λ (x : Numbered). x.item) ns (n ∷ [])) ∙ begins_snoc k (items ns) n.item)

-- its begins are at most p × L
legal_begins : (s : Shape) → 1 ≤ s.height → {ns : List Numbered} → Legal s ns → begun_in ns ≤ processes s * s.most
legal_begins s tall {ns} l =
    begins_most (processes s) s.most (items ns) (legal_low s l)
    (λ k kp. omega (arith, (runs s tall l).counts k kp, ((runs s tall l).invariant.process k kp).within, legal_begun s k l))

-- ---- a list with its numbers
module _ (s : Shape) (tall : 1 ≤ s.height) (rs : List StepRecord) (l : Legal s (numbered rs)) where
  pub list_spent : Spent s (numbered rs) (length (begin_records rs))
  list_spent = subst (λ (x : List StepRecord). Spent s (numbered rs) (length (begin_records x))) (items_numbered rs) (spent s tall l)

  pub list_begins : length (begin_records rs) ≤ processes s * s.most
  list_begins = rw (items_numbered rs) at (legal_begins s tall l)
