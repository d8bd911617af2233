-- What a call returns together with what it leaves in the buffers, as the definitions have it: of a refusal and a
-- verdict the paper's numbers.
use Rattle.std.specs.Prelude.{ℕ, List, Result, Ok, Err}
use Rattle.calls.specs.declared.Refusal.{Refusal}
use Rattle.calls.specs.Refusals.{paper_number, refusal_number}
use Rattle.calls.specs.Run.{RunResult}
use Rattle.calls.specs.ListOrder.{ListResult}
use Rattle.calls.specs.CheckLog.{CheckResult, Checking, checked}
use Rattle.queue.specs.declared.Ran.{Ran}

-- Run, with its table and answer bytes
unfoldable pub run_left : Ran → List ℕ → List ℕ → RunResult
run_left r table answers = record { refusal = refusal_number r.ended; taken = r.taken; answered = r.answers; table = table; answers = answers }

-- list the order, with its table and output
unfoldable pub list_left : Result ℕ Refusal → List ℕ → List ℕ → ListResult
list_left (Ok n) table output = record { refusal = 0; length = n; table = table; output = output }
list_left (Err x) table output = record { refusal = paper_number x; length = 0; table = table; output = output }

-- check a log, with its table
unfoldable pub check_left : Checking → List ℕ → CheckResult
check_left v table = checked v table
