-- A run by the former tests of a begin and the run of the same records: they take the same, and refuse the same record.
use Rattle.std.specs.Prelude.{Err}
use Prim.Native.Nat.{ℕ, ◌*◌, ◌-◌}
use native.Mathlib.Omega.{arith}
use mathlib.Core.Path.{◌≡◌, refl, ap, sym, ◌∙◌, subst}
use mathlib.Core.Logic.{◌⊎◌, inl, inr, ⊎_elim}
use mathlib.Core.Bool.{Bool, true, false}
use mathlib.Core.List.{List, [], ◌∷◌, ◌++◌, append-nil}
use lib.ListN.{length}
use lib.Seq.{append_snoc}
use lib.Dec.{leb}
use Rattle.base.proofs.Cases.{contradiction}
use Rattle.record.specs.declared.StepRecord.{StepRecord}
use Rattle.record.specs.StepRecords.{is_step, is_begin, ill_formed}
use Rattle.record.specs.AnswerRecords.{answer_size}
use Rattle.tree.specs.Shape.{Shape, processes}
use Rattle.steps.specs.declared.Process.{Process}
use Rattle.steps.specs.Machine.{process_of, is_idle}
use Rattle.calls.specs.declared.Refusal.TheVariants.{BeginWhileBusy, BegunAll}
use Rattle.calls.specs.Refusals.{Acceptance, paper_number, refusal_number, accepted, begin_refusal, step_refusal, record_refusal}
use Rattle.calls.specs.Run.{Played, at_start, taking, refusing, play}
use Rattle.calls.proofs.Played.{play_taken, play_refused}
use Rattle.calls.specs.CallsBy.{play_by}
use Rattle.calls.proofs.RunsBy.{by_taken, by_refused}
use Rattle.calls.specs.FormerOrder.{former_record}

-- ---- one record, whose process is q
module _ (s : Shape) (room : ℕ) (q : Process) (r : StepRecord) where
  -- a begin of a process that is not idle and has begun L
  pub record InLast : Type 0 where
    pub formed : ill_formed (processes s) r ≡ false
    pub begins : is_step r ≡ false
    pub busy : is_idle q.status ≡ false
    pub begun_all : leb s.most q.begun ≡ true

  pub now_eight : InLast → record_refusal s room q r ≡ Err BegunAll
  unfolding record_refusal begin_refusal
  now_eight i = rw (i.formed, i.begins, i.begun_all)

  pub then_six : InLast → former_record s room q r ≡ Err BeginWhileBusy
  unfolding former_record is_begin
  then_six i = rw (i.formed, i.begins, i.busy)

  -- elsewhere the order makes no difference
  abbrev Alike : Type 0
  Alike = (record_refusal s room q r ≡ former_record s room q r) ⊎ InLast

  pub alike : Alike
  unfolding record_refusal begin_refusal step_refusal former_record is_begin
  alike = formed (ill_formed (processes s) r) refl
    where
      busy : (b : Bool) → is_idle q.status ≡ b → ill_formed (processes s) r ≡ false → is_step r ≡ false → leb s.most q.begun ≡ true → Alike
      busy true d a b c = inl (rw (a, b, c, d))
      busy false d a b c = inr (record { formed = a; begins = b; busy = d; begun_all = c })

      begun : (b : Bool) → leb s.most q.begun ≡ b → ill_formed (processes s) r ≡ false → is_step r ≡ false → Alike
      begun true c a b = busy (is_idle q.status) refl a b c
      begun false c a b = inl (rw (a, b, c))

      begins : (b : Bool) → is_step r ≡ b → ill_formed (processes s) r ≡ false → Alike
      begins true b a = inl (rw (a, b))
      begins false b a = begun (leb s.most q.begun) refl a b

      formed : (b : Bool) → ill_formed (processes s) r ≡ b → Alike
      formed true a = inl (rw a)
      formed false a = begins (is_step r) refl a

  -- a record that has 6 in the former order is formed
  pub six_formed : refusal_number (former_record s room q r) ≡ 6 → ill_formed (processes s) r ≡ false
  unfolding former_record paper_number refusal_number
  six_formed e = on (ill_formed (processes s) r) refl
    where
      on : (b : Bool) → ill_formed (processes s) r ≡ b → ill_formed (processes s) r ≡ false
      on true a = absurd (omega (arith, rw a at e))
      on false a = a

-- ---- the former run and the run of the same records
module _ (s : Shape) (room : ℕ) where
  abbrev former : List StepRecord → Played
  former rs = play_by former_record s room rs

  abbrev now : List StepRecord → Played
  now rs = play s room rs

  abbrev pub left : Played → ℕ
  left g = room - answer_size * length g.answers

  -- they take the same records; both take all, or both refuse the same record, each by its own tests
  pub data Ends (rs : List StepRecord) : Type 0 where
    taken : accepted (now rs).refusal ≡ true → former rs ≡ now rs → Ends rs
    refused : (before : List StepRecord) (r : StepRecord) (after : List StepRecord) → rs ≡ before ++ (r ∷ after) → accepted (now before).refusal ≡ true
        → former rs ≡ refusing (now before) (former_record s (left (now before)) (process_of (now before).machine r.process) r)
        → now rs ≡ refusing (now before) (record_refusal s (left (now before)) (process_of (now before).machine r.process) r) → Ends rs

  -- one record after others that both took
  module _ (before : List StepRecord) (r : StepRecord) (ts : List StepRecord) (same : former before ≡ now before) (on : accepted (now before).refusal ≡ true) where
    abbrev g : Played
    g = now before

    abbrev q : Process
    q = process_of g.machine r.process

    abbrev n : Acceptance
    n = record_refusal s (left g) q r

    abbrev m : Acceptance
    m = former_record s (left g) q r

    abbrev Go : Type 0
    Go = (former (before ++ (r ∷ [])) ≡ now (before ++ (r ∷ []))) × (accepted (now (before ++ (r ∷ []))).refusal ≡ true)

    go : accepted m ≡ true → accepted n ≡ true → Go
    unfolding taking accepted
    go b a =
        let f = by_taken former_record s room before r g same on b in
        let h = play_taken s room before r on a in
        (f ∙ sym h, ap (λ (x : Played). accepted x.refusal) h)

    stop : accepted m ≡ false → accepted n ≡ false → Ends (before ++ (r ∷ ts))
    stop b a = refused before r ts refl on (by_refused former_record s room before r g same on b ts) (play_refused s room before r on a ts)

    ends_one : Go ⊎ Ends (before ++ (r ∷ ts))
    unfolding accepted
    ends_one = on_tests (alike s (left g) q r) (accepted n) refl
      where
        on_tests : (n ≡ m) ⊎ InLast s (left g) q r → (b : Bool) → accepted n ≡ b → Go ⊎ Ends (before ++ (r ∷ ts))
        on_tests (inl e) true a = inl (go (rw e at a) a)
        on_tests (inl e) false a = inr (stop (rw e at a) a)
        on_tests (inr i) b a = inr (stop (ap accepted (then_six s (left g) q r i)) (ap accepted (now_eight s (left g) q r i)))

  ends_from : (before ts : List StepRecord) → former before ≡ now before → accepted (now before).refusal ≡ true → Ends (before ++ ts)
  ends_from before [] same on = subst Ends (sym (append-nil before)) (taken on same)
  ends_from before (r ∷ ts) same on =
      ⊎_elim (λ go. subst Ends (append_snoc before r ts) (ends_from (before ++ (r ∷ [])) ts go.0 go.1)) (λ stop. stop) (ends_one before r ts same on)

  pub ends : (rs : List StepRecord) → Ends rs
  unfolding play play_by at_start accepted
  ends rs = ends_from [] rs refl refl

  -- a run without refusal meets a begin of a process that is not idle and has begun L: formerly 6, now 8
  module _ (before : List StepRecord) (r : StepRecord) (ts : List StepRecord) (on : accepted (now before).refusal ≡ true)
      (i : InLast s (left (now before)) (process_of (now before).machine r.process) r)
    where
      same_before : Ends before → former before ≡ now before
      unfolding refusing accepted
      same_before (taken ok e) = e
      same_before (refused b x a list ok f h) =
          let q = process_of (now b).machine x.process in
          ⊎_elim (λ e. f ∙ ap (refusing (now b)) (sym e) ∙ sym h)
          (λ j. contradiction (accepted (now before).refusal) on (ap (λ (g : Played). accepted g.refusal) h ∙ ap accepted (now_eight s (left (now b)) q x j)))
          (alike s (left (now b)) q x)

      pub overlap : (former (before ++ (r ∷ ts)) ≡ refusing (now before) (Err BeginWhileBusy)) × (now (before ++ (r ∷ ts)) ≡ refusing (now before) (Err BegunAll))
      unfolding accepted
      overlap =
          let six = then_six s (left (now before)) (process_of (now before).machine r.process) r i in
          let eight = now_eight s (left (now before)) (process_of (now before).machine r.process) r i in (
            by_refused former_record s room before r (now before) (same_before (ends before)) on (ap accepted six) ts ∙ ap (refusing (now before)) six,
            play_refused s room before r on (ap accepted eight) ts ∙ ap (refusing (now before)) eight,
          )
