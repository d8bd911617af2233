-- What the exported calls leave: the results that they return and the buffers, each as one result of the definitions, so
-- that a promise of all of it is one equation.
use Rattle.std.specs.Prelude.{ℕ, List}
use Rattle.calls.specs.Run.{RunResult}
use Rattle.calls.specs.ListOrder.{ListResult}
use Rattle.calls.specs.CheckLog.{CheckResult}
use Rattle.calls.specs.Forecast.{ForecastResult}
use Rattle.queue.specs.declared.OtqRun.{OtqRun}
use Rattle.queue.specs.declared.OtqList.{OtqList}
use Rattle.queue.specs.declared.OtqCheck.{OtqCheck}
use Rattle.queue.specs.declared.OtqForecast.{OtqForecast}

-- of Run: the table and the answer bytes too
unfoldable pub run_exported : OtqRun → List ℕ → List ℕ → RunResult
run_exported r table answers = record { refusal = r.refusal; taken = r.taken; answered = r.answers; table = table; answers = answers }

-- of list the order: the table and the output too
unfoldable pub list_exported : OtqList → List ℕ → List ℕ → ListResult
list_exported r table output = record { refusal = r.refusal; length = r.length; table = table; output = output }

-- of check a log: the table too
unfoldable pub check_exported : OtqCheck → List ℕ → CheckResult
check_exported r table = record { refusal = r.refusal; verdict = r.verdict; index = r.index; table = table }

-- of the forecast, which is lent no buffer to write
unfoldable pub forecast_exported : OtqForecast → ForecastResult
forecast_exported r = record { refusal = r.refusal; words = r.words; answer_bytes = r.answer_bytes; records = r.records }
