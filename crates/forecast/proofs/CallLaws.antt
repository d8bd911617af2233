-- What the call returns, by the tests that it made.
use Rattle.std.specs.Prelude.{Result, Ok, Err}
use Prim.Native.Nat.{ℕ, ◌*◌, ◌/◌, ◌≤◌}
use native.Mathlib.Omega.{arith}
use mathlib.Core.Path.{◌≡◌, ap, sym, subst}
use mathlib.Core.Bool.{true}
use mathlib.Core.List.{List}
use lib.ListN.{length}
use Rattle.record.specs.declared.StepRecord.{StepRecord}
use Rattle.record.specs.StepRecords.{step_records}
use Rattle.record.specs.AnswerRecords.{answer_size}
use Rattle.record.proofs.Cuts.{records_length}
use Rattle.tree.specs.Shape.{Shape, processes, shape_for}
use Rattle.tree.specs.Layout.{words_needed}
use Rattle.tree.proofs.LayoutSums.{product_most}
use Rattle.tree.proofs.Places.{processes_most}
use Rattle.steps.proofs.Limits.{allowed_most, short_for}
use Rattle.calls.specs.declared.Refusal.{Refusal}
use Rattle.calls.specs.Refusals.{refusal_number, accepted}
use Rattle.calls.specs.Demand3.{step_limit}
use Rattle.calls.specs.Forecast.{record_limit, forecast_refusal, foreseen, forecast, Forecasts}
use Rattle.calls.proofs.CallAccepted.{settings_operations}
use Rattle.calls.proofs.PlannedBegins.{planned_most, forecast_settings, forecast_begins}
use Rattle.calls.proofs.ForecastHolds.{forecast_holds}
use Rattle.forecast.specs.declared.Forecast.{Forecast}
use Rattle.forecast.specs.Returned.{returned}

-- the limit for an operation is far from what a word holds
pub limit_small : (p l : ℕ) → record_limit (shape_for p l) ≤ 1000
unfolding record_limit step_limit
limit_small p l = omega (arith, short_for p l)

module _ (p l : ℕ) (bytes : List ℕ) where
  abbrev s : Shape
  s = shape_for p l

  abbrev rs : List StepRecord
  rs = step_records bytes

  -- both clauses follow from the equation
  pub both_clauses : (f : Result Forecast Refusal) → returned f ≡ forecast p l bytes → (returned f ≡ forecast p l bytes) × Forecasts p l bytes (returned f)
  both_clauses f e = (e, subst (Forecasts p l bytes) (sym e) (forecast_holds p l bytes))

  pub returns_refused : (n : Refusal) → Err n ≡ forecast_refusal p l bytes → returned (Err n) ≡ forecast p l bytes
  unfolding returned forecast accepted refusal_number
  returns_refused n told = rw (← told)

  -- the tests refuse nothing
  module _ (told : Ok tt ≡ forecast_refusal p l bytes) where
    pub returns_foreseen : (w a r : ℕ) → w ≡ words_needed s → a ≡ answer_size * length rs → r ≡ length rs * record_limit s
        → returned (Ok (record { words = w; answer_bytes = a; records = r })) ≡ forecast p l bytes
    unfolding returned forecast foreseen accepted
    returns_foreseen w a r x y z = rw (← told, x, y, z)

    passed : accepted (forecast_refusal p l bytes) ≡ true
    unfolding accepted
    passed = ap accepted (sym told)

    pub most_allowed : l ≤ 500
    most_allowed = (allowed_most l (settings_operations p l (forecast_settings p l bytes passed))).1

    pub few_begins : length bytes / 8 ≤ 4000
    unfolding shape_for
    few_begins =
        omega (arith, records_length bytes, planned_most s rs (forecast_begins p l bytes passed), product_most (processes s) l 8 500 (processes_most s (short_for p l)) most_allowed)
