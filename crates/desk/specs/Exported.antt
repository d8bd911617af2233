-- What the exported call leaves: the result that it returns and the buffers, as one result of the definition, so that the
-- promise of all of it is one equation.
use Rattle.std.specs.Prelude.{ℕ, List}
use Rattle.desk_rules.specs.Desk.{DeskResult}
use Rattle.desk.specs.declared.DeskDelivery.{DeskDelivery}

unfoldable pub desk_exported : DeskDelivery → List ℕ → List ℕ → DeskResult
desk_exported r table output = record { refusal = r.refusal; count = r.count; table = table; output = output }
