-- What the forecast returns, as the definition has it: of a refusal the paper's number, and zeros.
use Rattle.std.specs.Prelude.{Result, Ok, Err}
use Rattle.calls.specs.declared.Refusal.{Refusal}
use Rattle.calls.specs.Refusals.{paper_number}
use Rattle.calls.specs.Forecast.{ForecastResult}
use Rattle.forecast.specs.declared.Forecast.{Forecast}

unfoldable pub returned : Result Forecast Refusal → ForecastResult
returned (Ok f) = record { refusal = 0; words = f.words; answer_bytes = f.answer_bytes; records = f.records }
returned (Err n) = record { refusal = paper_number n; words = 0; answer_bytes = 0; records = 0 }
