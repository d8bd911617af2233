-- The tests of p, l and the licensed process: a forecast without begins tells the first two.
use Prim.Native.Nat.{ℕ, ◌≤◌, ◌<◌}
use mathlib.Core.Path.{◌≡◌, refl, ap, sym, ◌∙◌}
use mathlib.Core.Logic.{◌≢◌}
use mathlib.Core.Bool.{Bool, true, false}
use mathlib.Core.List.{List, []}
use Rattle.record.specs.StepRecords.{step_size, step_records}
use Rattle.encoding.specs.Bytes.{cut}
use Rattle.calls.specs.Refusals.{Acceptance, refusal_number, accepted, torn, first_refusal, settings_refusal, bytes_refusal}
use Rattle.calls.specs.Forecast.{ForecastResult, begins_refusal, forecast_refusal, foreseen, forecast}
use Rattle.calls.proofs.Acceptance.{accepted_zero, zero_accepted, nonzero_refused}
use Rattle.queue.specs.declared.OtqForecast.{OtqForecast}
use Rattle.queue.specs.Exported.{forecast_exported}
use Rattle.std.specs.Prelude.{Err}
use Rattle.desk_rules.specs.declared.DeskRefusal.TheVariants.{Queue, Licence}
use Rattle.desk_rules.specs.DeskRefusals.{desk_number}
use Rattle.desk_rules.specs.Desk.{desk}
use Rattle.desk_rules.proofs.Calls.{turned_down, desk_settings, desk_licence}
use Rattle.desk_listed.specs.Left.{desk_left}
use Rattle.desk.specs.Clauses.Deliverable.{Allowed}
use Rattle.desk.proofs.Listing.{left_refused}

module _ (p l : ℕ) where
  abbrev n : Acceptance
  n = settings_refusal p l

  none_begun : (forecast p l []).refusal ≡ refusal_number (settings_refusal p l)
  unfolding forecast forecast_refusal first_refusal begins_refusal bytes_refusal torn step_size step_records cut foreseen accepted refusal_number
  none_begun = on (accepted n) refl
    where
      on : (b : Bool) → accepted n ≡ b → (forecast p l []).refusal ≡ refusal_number n
      on true e = rw e (sym (zero_accepted n e))
      on false e = rw (e, e, e)

  -- what it returned
  module _ (r : OtqForecast) (bytes : List ℕ) (none : bytes ≡ []) (told : forecast_exported r ≡ forecast p l bytes) where
    number_is : r.refusal ≡ refusal_number (settings_refusal p l)
    unfolding forecast_exported
    number_is = ap (λ (f : ForecastResult). f.refusal) told ∙ ap (λ (b : List ℕ). (forecast p l b).refusal) none ∙ none_begun

    settings_passed : r.refusal ≡ 0 → accepted (settings_refusal p l) ≡ true
    settings_passed z = accepted_zero n (sym number_is ∙ z)

    pub all_allowed : (licensed : ℕ) → r.refusal ≡ 0 → licensed < p → Allowed p l licensed
    all_allowed licensed z low = record { settings = settings_passed z; licence = low }

    module _ (licensed : ℕ) (records table output : List ℕ) where
      pub settings_down : r.refusal ≢ 0 → desk_left (Err (Queue r.refusal)) table output ≡ desk p l licensed records table output
      unfolding desk_number
      settings_down refused =
          left_refused (Queue r.refusal) table output
          ∙ ap (λ (k : ℕ). turned_down k table output) number_is
          ∙ sym (desk_settings p l licensed records table output (nonzero_refused n (λ z. refused (number_is ∙ z))))

      pub licence_down : r.refusal ≡ 0 → p ≤ licensed → desk_left (Err Licence) table output ≡ desk p l licensed records table output
      unfolding desk_number
      licence_down z h = left_refused Licence table output ∙ sym (desk_licence p l licensed records table output (settings_passed z) h)
