-- The theorem: of all runs, just those change that stopped with 6 at a begin of a process that is not idle and has
-- begun L; they stop with 8 and leave the same. For every p, L, list of bytes, table and buffer of each call.
use Rattle.std.specs.Prelude.{Err}
use Rattle.std.specs.Prelude.{if◌then◌else◌}
use Prim.Native.Nat.{ℕ, ◌*◌, ◌≤◌}
use native.Mathlib.Omega.{arith}
use mathlib.Core.Path.{◌≡◌, refl, ap, sym, ◌∙◌}
use mathlib.Core.Logic.{◌⊎◌, inl, inr, ⊎_elim}
use mathlib.Core.Bool.{Bool, true, false}
use mathlib.Core.List.{List, ◌∷◌, ◌++◌}
use lib.ListN.{length, get_or}
use lib.Seq.{get_or_at}
use borrow.Author.Tests.{leb-true, le-leb}
use Rattle.base.proofs.Cases.{contradiction}
use Rattle.record.specs.declared.StepRecord.{StepRecord}
use Rattle.record.specs.StepRecords.{ill_formed, step_records}
use Rattle.record.specs.AnswerRecords.{answer_size}
use Rattle.tree.specs.Shape.{Shape, processes, shape_for}
use Rattle.steps.specs.declared.Process.{Process}
use Rattle.steps.specs.Machine.{process_of}
use Rattle.calls.specs.declared.Refusal.TheVariants.{BeginWhileBusy, BegunAll}
use Rattle.calls.specs.Refusals.{Acceptance, paper_number, refusal_number, accepted, call_refusal, record_refusal}
use Rattle.calls.specs.Run.{Played, refusing, play, run_played, run}
use Rattle.calls.specs.ListOrder.{play_all, list_refusal, listed, list_played, list_order}
use Rattle.calls.specs.CheckLog.{check_refusal, verdict_number, verdict_index, verdict_refusal, checked, check_turned_down, verdict_on, check_played, check_log}
use Rattle.calls.proofs.Legal.{not_step, no_step, formed_low}
use Rattle.calls.proofs.Played.{played_all, whole_machine, whole_legal}
use Rattle.calls.proofs.Runs.{runs}
use Rattle.calls.proofs.Acceptance.{zero_accepted}
use Rattle.calls.proofs.Theorem.{tall_for}
use Rattle.calls.specs.CallsBy.{play_by, play_all_by, run_by, list_order_by, check_log_by}
use Rattle.calls.proofs.FormerRuns.{InLast, now_eight, then_six, alike, six_formed, left, Ends, taken, refused, ends}
use Rattle.calls.specs.FormerOrder.{former_record, StoppedInLast, run_numbered, list_numbered, check_numbered, Stopped, Compared, equal, moved}
use Rattle.calls.specs.FormerOrder.{RunCompared, ListCompared, CheckCompared, EightBeforeSix}

-- ---- where they stop at a begin of a process that is not idle and has begun L
module _ (s : Shape) (tall : 1 ≤ s.height) (room : ℕ) (rs : List StepRecord) where
  abbrev former : Played
  former = play_by former_record s room rs

  -- the former run and the run: equal, or equal but for the refusal
  abbrev Told : Type 0
  Told =
      ((StoppedInLast s rs former → ⊥) × (play s room rs ≡ former))
      ⊎ (StoppedInLast s rs former × (former.refusal ≡ Err BeginWhileBusy) × (play s room rs ≡ refusing former (Err BegunAll)))

  told_taken : accepted (play s room rs).refusal ≡ true → former ≡ play s room rs → Told
  told_taken ok e =
      inl (λ st. absurd (omega (arith, st.six, zero_accepted former.refusal (ap (λ (g : Played). accepted g.refusal) e ∙ ok))), sym e)

  -- both refused the record r
  module _ (before : List StepRecord) (r : StepRecord) (after : List StepRecord) (list : rs ≡ before ++ (r ∷ after)) (on : accepted (play s room before).refusal ≡ true)
      (f : former ≡ refusing (play s room before) (former_record s (left s room (play s room before)) (process_of (play s room before).machine r.process) r))
      (h : play s room rs ≡ refusing (play s room before) (record_refusal s (left s room (play s room before)) (process_of (play s room before).machine r.process) r))
    where
      abbrev g : Played
      g = play s room before

      abbrev q : Process
      q = process_of g.machine r.process

      abbrev Last : Type 0
      Last = InLast s (left s room g) q r

      same_machine : former.machine ≡ g.machine
      unfolding refusing
      same_machine = ap (λ (x : Played). x.machine) f

      all_before : former.taken ≡ length before
      unfolding refusing
      all_before = ap (λ (x : Played). x.taken) f ∙ played_all s room before on

      former_refusal : former.refusal ≡ former_record s (left s room g) q r
      unfolding refusing
      former_refusal = ap (λ (x : Played). x.refusal) f

      within : ill_formed (processes s) r ≡ false → q.begun ≤ s.most
      within formed =
          rw (whole_machine s room before on) ((runs s tall (whole_legal s room before on)).invariant.process r.process (formed_low (processes s) r formed)).within

      stops : Last → StoppedInLast s rs former
      unfolding paper_number refusal_number
      stops i =
          record {
            before = before;
            refused = r;
            after = after;
            list = list;
            taken = all_before;
            six = rw (former_refusal, then_six s (left s room g) q r i);
            begins = not_step r i.begins;
            busy = rw same_machine i.busy;
            begun_all = rw same_machine (omega (arith, within i.formed, leb-true s.most q.begun i.begun_all));
          }

      -- that is the record which such a stop names
      same_record : (st : StoppedInLast s rs former) → st.refused ≡ r
      same_record st =
          let n : length st.before ≡ length before = sym st.taken ∙ all_before in
          sym (get_or_at st.before st.refused st.after r (length before) n) ∙ ap (λ (l : List StepRecord). get_or l (length before) r) (sym st.list ∙ list)
          ∙ get_or_at before r after r (length before) refl

      was_last : StoppedInLast s rs former → Last
      was_last st =
          record {
            formed = six_formed s (left s room g) q r (rw former_refusal at st.six);
            begins = no_step r (rw (same_record st) at st.begins);
            busy = rw (same_record st, same_machine) at st.busy;
            begun_all = le-leb s.most q.begun (omega (arith, rw (same_record st, same_machine) at st.begun_all));
          }

      told_refused : Told
      unfolding refusing paper_number refusal_number
      told_refused = on_tests (alike s (left s room g) q r)
        where
          on_tests : (record_refusal s (left s room g) q r ≡ former_record s (left s room g) q r) ⊎ Last → Told
          on_tests (inl e) =
              inl (
                λ st. absurd (omega (arith, ap refusal_number (sym (now_eight s (left s room g) q r (was_last st)) ∙ e ∙ then_six s (left s room g) q r (was_last st)))),
                h ∙ ap (refusing g) e ∙ sym f,
              )
          on_tests (inr i) =
              inr (stops i, former_refusal ∙ then_six s (left s room g) q r i, h ∙ rw (now_eight s (left s room g) q r i, f))

  -- for general H, of every run
  pub played_compared : Told
  played_compared = on_ends (ends s room rs)
    where
      on_ends : Ends s room rs → Told
      on_ends (taken ok e) = told_taken ok e
      on_ends (refused before r after list on f h) = told_refused before r after list on f h

-- ---- a call with tests n of its own, by what it makes of a run, or gives where it is turned down
module _ {R : Type 0} (numbered : ℕ → R → R) (n : Acceptance) (s : Shape) (tall : 1 ≤ s.height) (room : ℕ) (rs : List StepRecord) (made : Played → R) (down : R)
    (six : (g : Played) → g.refusal ≡ Err BeginWhileBusy → made g ≡ numbered 6 (made g))
    (eight : (g : Played) → g.refusal ≡ Err BeginWhileBusy → made (refusing g (Err BegunAll)) ≡ numbered 8 (made g))
  where
    abbrev gave : Bool → R
    gave b = if b then made (play_by former_record s room rs) else down

    abbrev gives : Bool → R
    gives b = if b then made (play s room rs) else down

    compared : Compared (Stopped n s rs (play_by former_record s room rs)) numbered (gave (accepted n)) (gives (accepted n))
    compared = on (accepted n) refl
      where
        on : (b : Bool) → accepted n ≡ b → Compared (Stopped n s rs (play_by former_record s room rs)) numbered (gave b) (gives b)
        on false z = equal (λ st. contradiction (accepted n) st.0 z) refl
        on true z =
            ⊎_elim (λ kept. equal (λ st. kept.0 st.1) (ap made kept.1))
            (λ moves. moved (z, moves.0) (six (play_by former_record s room rs) moves.1) (ap made moves.2 ∙ eight (play_by former_record s room rs) moves.1))
            (played_compared s tall room rs)

-- ---- the calls
module _ (p l : ℕ) (records table : List ℕ) where
  abbrev s : Shape
  s = shape_for p l

  abbrev rs : List StepRecord
  rs = step_records records

  run_compared : (answers : List ℕ) → RunCompared p l records table answers
  unfolding run run_by run_played run_numbered refusing paper_number refusal_number
  run_compared answers =
      compared run_numbered (call_refusal p l (length table) (length records)) s (tall_for p l) (length answers) rs (λ g. run_played s g table answers) _
      (λ g e. rw e) (λ g e. refl)

  list_compared : (output : List ℕ) → ListCompared p l records table output
  unfolding list_order list_order_by play_all play_all_by list_played list_refusal listed list_numbered refusing accepted paper_number refusal_number
  list_compared output =
      compared list_numbered (call_refusal p l (length table) (length records)) s (tall_for p l) (answer_size * length rs) rs (λ g. list_played s g table output) _
      (λ g e. rw e) (λ g e. rw e)

  check_compared : (log : List ℕ) → CheckCompared p l records log table
  unfolding check_log check_log_by play_all play_all_by check_played checked check_turned_down verdict_on verdict_number verdict_index verdict_refusal check_numbered refusing accepted paper_number refusal_number
  check_compared log =
      compared check_numbered (check_refusal p l (length table) (length records) (length log)) s (tall_for p l) (answer_size * length rs) rs (λ g. check_played s g log table) _
      (λ g e. rw e) (λ g e. rw e)

  pub eight_before_six : EightBeforeSix p l records table
  eight_before_six = record { run = run_compared; list = list_compared; check = check_compared }

-- ---- what the claim says, by cases
module _ {stopped R : Type 0} {numbered : ℕ → R → R} {former now : R} where
  pub where_stopped : Compared stopped numbered former now → stopped → (former ≡ numbered 6 former) × (now ≡ numbered 8 former)
  where_stopped (equal never e) st = absurd (never st)
  where_stopped (moved st six eight) st' = (six, eight)

  pub elsewhere : Compared stopped numbered former now → (stopped → ⊥) → now ≡ former
  elsewhere (equal never e) never' = e
  elsewhere (moved st six eight) never' = absurd (never' st)
