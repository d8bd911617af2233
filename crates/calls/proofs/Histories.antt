-- What records and histories say when more follow.
use Rattle.std.specs.Prelude.{if◌then◌else◌}
use Prim.Native.Nat.{ℕ, suc, ◌+◌}
use native.Mathlib.Omega.{arith}
use mathlib.Core.Path.{◌≡◌, refl, ap, sym, ◌∙◌}
use mathlib.Core.Bool.{Bool, true, false, ◌&&◌, ◌||◌, or_assoc, or-false, and-false}
use mathlib.Core.List.{List, [], ◌∷◌, ◌++◌, foldl, foldl-append, append_assoc, append-nil}
use lib.Seq.{append_snoc}
use lib.Dec.{eqb}
use Rattle.base.proofs.Cases.{both}
use Rattle.record.specs.declared.StepRecord.{StepRecord}
use Rattle.record.specs.StepRecords.{is_begin}
use Rattle.tree.specs.Shape.{Shape}
use Rattle.tree.specs.Memory.{Memory}
use Rattle.tree.specs.Order.{OpId}
use Rattle.tree.specs.Standing.{same}
use Rattle.tree.proofs.Names.{count_append}
use Rattle.steps.specs.Machine.{process_of, at_q}
use Rattle.calls.specs.Numbered.{Numbered}
use Rattle.calls.specs.Run.{take_record, record_answers}
use Rattle.calls.specs.History.{Event, opens, moves, finishes, operation, begun_by, Course, course_start, next_event, course_record, course_after, machine_after, history}
use Rattle.calls.specs.History.{is_opening, is_own_step, is_own_help, is_finish, is_opened, is_finished, finished_before, own_steps, own_helps, does}
use Rattle.calls.specs.Demand3.{finishing}
use Rattle.calls.specs.Forecast.{begins}
use Rattle.calls.proofs.Legal.{answers_after, answers_along}

-- ---- records

-- the memory that they left
abbrev pub memory_after : Shape → List Numbered → Memory
memory_after s ns = (machine_after s ns).memory

module _ (s : Shape) where
  course_append : (ns ts : List Numbered) → course_after s (ns ++ ts) ≡ foldl (course_record s) (course_after s ns) ts
  unfolding course_after
  course_append ns ts = foldl-append (course_record s) (course_start s) ns ts

  pub machine_snoc : (ns : List Numbered) (n : Numbered) → machine_after s (ns ++ (n ∷ [])) ≡ take_record s (machine_after s ns) n
  unfolding machine_after course_record
  machine_snoc ns n = ap (λ (c : Course). c.machine) (course_append ns (n ∷ []))

  pub history_snoc : (ns : List Numbered) (n : Numbered) → history s (ns ++ (n ∷ [])) ≡ history s ns ++ (next_event s (course_after s ns) n ∷ [])
  unfolding history course_record
  history_snoc ns n = ap (λ (c : Course). c.events) (course_append ns (n ∷ []))

  -- the events of records that follow
  pub history_append : (ns ts : List Numbered) → (more : List Event) × (history s (ns ++ ts) ≡ history s ns ++ more)
  history_append ns [] = ([], ap (history s) (append-nil ns) ∙ sym (append-nil (history s ns)))
  history_append ns (n ∷ ts) =
      let later = history_append (ns ++ (n ∷ [])) ts in
      let e = next_event s (course_after s ns) n in (
        e ∷ later.0,
        ap (history s) (sym (append_snoc ns n ts)) ∙ later.1 ∙ ap (λ (h : List Event). h ++ later.0) (history_snoc ns n) ∙ append_snoc (history s ns) e later.0,
      )

  answers_after_append : (before ns ts : List Numbered) → answers_after s before (ns ++ ts) ≡ answers_after s before ns ++ answers_after s (before ++ ns) ts
  unfolding answers_after
  answers_after_append before [] ts = rw append-nil
  answers_after_append before (n ∷ ns) ts = rw (answers_after_append (before ++ (n ∷ [])) ns ts, append_snoc, append_assoc)

  pub answers_snoc : (ns : List Numbered) (n : Numbered) → answers_along s (ns ++ (n ∷ [])) ≡ answers_along s ns ++ record_answers s (machine_after s ns) n.item
  unfolding answers_along answers_after
  answers_snoc ns n = rw (answers_after_append [] ns (n ∷ [])) (rw append-nil)

begins_append : (k : ℕ) (rs ts : List StepRecord) → begins k (rs ++ ts) ≡ begins k rs + begins k ts
unfolding begins
begins_append k = count_append (λ r. is_begin r && eqb r.process k) (begins k) refl (λ r rs. refl)

-- one record more
pub begins_snoc : (k : ℕ) (rs : List StepRecord) (r : StepRecord) → begins k (rs ++ (r ∷ [])) ≡ begins k rs + (if is_begin r && eqb r.process k then 1 else 0)
unfolding begins
begins_snoc k rs r = begins_append k rs (r ∷ [])

-- ---- events

-- those that open
begun_by-append : (k : ℕ) (h g : List Event) → begun_by k (h ++ g) ≡ begun_by k h + begun_by k g
unfolding begun_by
begun_by-append k [] g = omega arith
begun_by-append k (opens x o ∷ h) g = on (eqb x.process k) (begun_by-append k h g)
  where
    on : (b : Bool) → begun_by k (h ++ g) ≡ begun_by k h + begun_by k g
        → (if b then suc (begun_by k (h ++ g)) else begun_by k (h ++ g)) ≡ (if b then suc (begun_by k h) else begun_by k h) + begun_by k g
    on true e = omega (arith, e)
    on false e = e
begun_by-append k (moves x helped ∷ h) g = begun_by-append k h g
begun_by-append k (finishes x ∷ h) g = begun_by-append k h g

-- one record more opens an operation of its process, if it is a begin
module _ (s : Shape) (j : ℕ) where
  begun_event : (c : Course) (n : Numbered) → begun_by j (next_event s c n ∷ []) ≡ (if is_begin n.item && eqb n.item.process j then 1 else 0)
  unfolding next_event begun_by operation
  begun_event c n = on (is_begin n.item) refl
    where
      on : (b : Bool) → is_begin n.item ≡ b → begun_by j (next_event s c n ∷ []) ≡ (if b && eqb n.item.process j then 1 else 0)
      on true e = rw e
      on false e = rw e (both (λ (x : Event). begun_by j (x ∷ []) ≡ 0) (at_q (process_of c.machine n.item.process).status) refl refl)

  pub begun_snoc : (ns : List Numbered) (n : Numbered)
      → begun_by j (history s (ns ++ (n ∷ []))) ≡ begun_by j (history s ns) + (if is_begin n.item && eqb n.item.process j then 1 else 0)
  begun_snoc ns n =
      ap (begun_by j) (history_snoc s ns n) ∙ begun_by-append j (history s ns) _ ∙ ap (λ (i : ℕ). begun_by j (history s ns) + i) (begun_event (course_after s ns) n)

module _ (x : OpId) where
  pub is_opened-append : (h k : List Event) → is_opened x (h ++ k) ≡ is_opened x h || is_opened x k
  unfolding is_opened
  is_opened-append [] k = refl
  is_opened-append (e ∷ h) k = rw (is_opened-append h k, or_assoc)

  pub is_opened-snoc : (h : List Event) (e : Event) → is_opened x (h ++ (e ∷ [])) ≡ is_opened x h || is_opening x e
  unfolding is_opened
  is_opened-snoc h e = rw (is_opened-append h (e ∷ []), or-false)

  pub is_finished-append : (h k : List Event) → is_finished x (h ++ k) ≡ is_finished x h || is_finished x k
  unfolding is_finished
  is_finished-append [] k = refl
  is_finished-append (e ∷ h) k = rw (is_finished-append h k, or_assoc)

  pub is_finished-snoc : (h : List Event) (e : Event) → is_finished x (h ++ (e ∷ [])) ≡ is_finished x h || is_finish x e
  unfolding is_finished
  is_finished-snoc h e = rw (is_finished-append h (e ∷ []), or-false)

  pub own_steps-append : (h k : List Event) → own_steps x (h ++ k) ≡ own_steps x h + own_steps x k
  unfolding own_steps
  own_steps-append = count_append (is_own_step x) (own_steps x) refl (λ e h. refl)

  pub own_steps-snoc : (h : List Event) (e : Event) → own_steps x (h ++ (e ∷ [])) ≡ own_steps x h + (if is_own_step x e then 1 else 0)
  unfolding own_steps
  own_steps-snoc h e = own_steps-append h (e ∷ [])

  own_helps-append : (h k : List Event) → own_helps x (h ++ k) ≡ own_helps x h + own_helps x k
  unfolding own_helps
  own_helps-append = count_append (is_own_help x) (own_helps x) refl (λ e h. refl)

  pub own_helps-snoc : (h : List Event) (e : Event) → own_helps x (h ++ (e ∷ [])) ≡ own_helps x h + (if is_own_help x e then 1 else 0)
  unfolding own_helps
  own_helps-snoc h e = own_helps-append h (e ∷ [])

  -- an operation does what its first opening says
  pub does_append : (h k : List Event) → does x (h ++ k) ≡ (if is_opened x h then does x h else does x k)
  unfolding does is_opened is_opening
  does_append [] k = refl
  does_append (opens y o ∷ h) k = on (same x y) (does_append h k)
    where
      on : (b : Bool) → does x (h ++ k) ≡ (if is_opened x h then does x h else does x k)
          → (if b then o else does x (h ++ k)) ≡ (if b || is_opened x h then (if b then o else does x h) else does x k)
      on true ih = refl
      on false ih = ih
  does_append (moves y helped ∷ h) k = does_append h k
  does_append (finishes y ∷ h) k = does_append h k

-- the operations that finish
pub finishing_append : (h k : List Event) → finishing (h ++ k) ≡ finishing h ++ finishing k
unfolding finishing
finishing_append [] k = refl
finishing_append (opens x o ∷ h) k = finishing_append h k
finishing_append (moves x helped ∷ h) k = finishing_append h k
finishing_append (finishes x ∷ h) k = ap (λ (l : List OpId). x ∷ l) (finishing_append h k)

-- the tests of the next law, in its two orders
regroup : (a b c d e f : Bool) → a && (b || c) || (d || e && c || f) ≡ a && b || d || (a || e) && c || f
regroup false b c d e f = refl
regroup true true c d e f = refl
regroup true false true true e f = refl
regroup true false true false e f = refl
regroup true false false true e f = refl
regroup true false false false e f = rw and-false

-- an operation that finishes before another opens
module _ (x y : OpId) where
  pub finished_before-append : (h k : List Event)
      → finished_before x y (h ++ k) ≡ finished_before x y h || is_finished x h && is_opened y k || finished_before x y k
  unfolding finished_before is_finished
  finished_before-append [] k = refl
  finished_before-append (e ∷ h) k =
      rw (finished_before-append h k, is_opened-append y h k)
      (regroup (is_finish x e) (is_opened y h) (is_opened y k) (finished_before x y h) (is_finished x h) (finished_before x y k))

  pub finished_before-snoc : (h : List Event) (e : Event) → finished_before x y (h ++ (e ∷ [])) ≡ finished_before x y h || is_finished x h && is_opening y e
  unfolding finished_before is_opened
  finished_before-snoc h e = rw finished_before-append (simp (or-false, and-false))
