-- What a function of the desk returns, how many terms or why none, together with what it leaves in the buffers, as the
-- definition has it.
use Rattle.std.specs.Prelude.{ℕ, List, Result, Ok, Err}
use Rattle.desk_rules.specs.declared.DeskRefusal.{DeskRefusal}
use Rattle.desk_rules.specs.DeskRefusals.{desk_number}
use Rattle.desk_rules.specs.Desk.{DeskResult}

unfoldable pub desk_left : Result ℕ DeskRefusal → List ℕ → List ℕ → DeskResult
desk_left (Ok count) table output = record { refusal = 0; count = count; table = table; output = output }
desk_left (Err why) table output = record { refusal = desk_number why; count = 0; table = table; output = output }
