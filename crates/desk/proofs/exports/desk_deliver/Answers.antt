-- `exports::desk_deliver` meets its contract.
use native.Mathlib.Omega.{arith}
use mathlib.Core.Path.{◌∙◌}
use Rattle.desk.proofs.Exporting.{exported_count, exported_refusal, in_order_lem}
use Rattle.desk.proofs.exports.desk_deliver.Goals as goal

pub returns-in-Ok : goal.returns-in-Ok
returns-in-Ok c =
    let rules = exported_count _ _ _ ∙ c.in-Ok.ensures in
    record { rules = rules; order = in_order_lem _ _ _ _ _ _ _ _ _ rules (λ i. omega (arith, c.type_inv.table i)) }

pub returns-in-Err : goal.returns-in-Err
returns-in-Err c =
    let rules = exported_refusal _ _ _ _ c.into.ensures ∙ c.in-Err.ensures in
    record { rules = rules; order = in_order_lem _ _ _ _ _ _ _ _ _ rules (λ i. omega (arith, c.type_inv.table i)) }
