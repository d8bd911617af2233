-- Of a list that Run plays without refusal, the forecast of its begins refuses nothing.
use Prim.Native.Nat.{ℕ, ◌≤◌}
use native.Mathlib.Omega.{arith}
use mathlib.Core.Path.{◌≡◌, refl}
use mathlib.Core.Bool.{true, false}
use mathlib.Core.List.{List, [], ◌∷◌, ◌++◌, append-nil, map-append}
use lib.ListN.{length}
use Rattle.base.proofs.Cases.{cases}
use Rattle.record.specs.declared.StepRecord.{StepRecord}
use Rattle.record.specs.StepRecords.{step_size, is_begin, step_records}
use Rattle.tree.specs.Shape.{Shape, shape_for}
use Rattle.calls.specs.Refusals.{accepted, torn, settings_refusal, bytes_refusal}
use Rattle.calls.specs.Run.{run}
use Rattle.calls.specs.Numbered.{Numbered, numbered}
use Rattle.calls.specs.History.{machine_after}
use Rattle.calls.specs.Forecast.{begins, begins_refusal, forecast_refusal, foreseen, forecast, begin_records}
use Rattle.calls.proofs.Acceptance.{first_accepted}
use Rattle.calls.proofs.Numbers.{items, items_numbered}
use Rattle.calls.proofs.RecordLimit.{legal_begun}
use Rattle.calls.proofs.Legal.{Accepted, Legal, none, more}
use Rattle.calls.proofs.Played.{whole_legal}
use Rattle.calls.proofs.CallAccepted.{accepted_settings}
use Rattle.calls.proofs.Runs.{runs}
use Rattle.calls.proofs.Theorem.{tall_for}
use Rattle.calls.proofs.Unrefused.{run_accepted, run_played_lem}
use Rattle.calls.proofs.BeginRecords.{begin_records_append, begins_among}
use Rattle.calls.proofs.PlannedBegins.{Planned, plan, planned_snoc}

-- ---- general H: every legal list
module _ (s : Shape) (tall : 1 ≤ s.height) where
  begin_planned : (ns : List Numbered) (r : StepRecord) → Legal s ns → Accepted s (machine_after s ns) r → is_begin r ≡ true → Planned s (begins r.process (begin_records (items ns))) r
  begin_planned ns r l a b =
      record {
        formed = a.formed;
        begins = b;
        fewer = omega (arith, a.within b, (runs s tall l).counts r.process a.process_low, legal_begun s r.process l, begins_among r.process (items ns));
      }

  legal_planned : {ns : List Numbered} → Legal s ns → accepted (begins_refusal s [] (begin_records (items ns))) ≡ true
  unfolding begin_records begins_refusal accepted
  legal_planned none = refl
  legal_planned (more {ns} n l a) =
      let before = legal_planned l in
      let bs = begin_records (items ns) in
      rw (map-append (λ (x : Numbered). x.item) ns (n ∷ []), begin_records_append (items ns) (n.item ∷ []))
      (cases (λ (x : List StepRecord). accepted (begins_refusal s [] (bs ++ x)) ≡ true) (is_begin n.item)
      (λ b. planned_snoc s [] bs n.item before (plan s (begins n.item.process bs) n.item (begin_planned ns n.item l a b)))
      (λ b. rw (append-nil bs) before))

  list_planned : (rs : List StepRecord) → Legal s (numbered rs) → accepted (begins_refusal s [] (begin_records rs)) ≡ true
  list_planned rs l = rw (items_numbered rs) at (legal_planned l)

-- ---- of what Run returns
module _ (p l : ℕ) (records table answers : List ℕ) (none : (run p l records table answers).refusal ≡ 0) (bytes : List ℕ) (whole : torn step_size (length bytes) ≡ false)
    (these : begin_records (step_records records) ≡ step_records bytes)
  where
    bytes_pass : accepted (bytes_refusal (length bytes)) ≡ true
    unfolding bytes_refusal accepted
    bytes_pass = rw whole

    begins_pass : accepted (begins_refusal (shape_for p l) [] (step_records bytes)) ≡ true
    begins_pass =
        rw (← these)
        (list_planned (shape_for p l) (tall_for p l) (step_records records) (whole_legal (shape_for p l) (length answers) (step_records records) (run_played_lem p l records table answers none)))

    all_pass : accepted (forecast_refusal p l bytes) ≡ true
    unfolding forecast_refusal
    all_pass =
        let settings = accepted_settings p l (length table) (length records) (run_accepted p l records table answers none) in
        first_accepted _ _ (first_accepted (settings_refusal p l) _ settings bytes_pass) begins_pass

    pub foreseen_none : (forecast p l bytes).refusal ≡ 0
    unfolding forecast foreseen
    foreseen_none = rw all_pass
