-- What the exported call returns and leaves, from what `deliver` does; and the order of delivery on it.
use Prim.Native.Nat.{ℕ, ◌^◌, ◌<◌}
use mathlib.Core.Path.{◌≡◌, refl, ap, sym, ◌∙◌, subst}
use mathlib.Core.List.{List}
use lib.ListN.{get_or}
use Rattle.record.specs.StepRecords.{step_records}
use Rattle.desk_rules.specs.DeskRefusals.{desk_number}
use Rattle.desk_rules.specs.Desk.{DeskResult, desk}
use Rattle.desk_rules.specs.Deliveries.{DeliversInOrder}
use Rattle.desk_rules.proofs.DeskOrder.{desk_order}
use Rattle.std.specs.Prelude.{Ok, Err}
use Rattle.desk_rules.specs.declared.DeskRefusal.{DeskRefusal}
use Rattle.desk.specs.declared.DeskDelivery.{DeskDelivery}
use Rattle.desk_listed.specs.Left.{desk_left}
use Rattle.desk.specs.Exported.{desk_exported}

pub exported_count : (count : ℕ) (table output : List ℕ) → desk_exported (record { refusal = 0; count = count }) table output ≡ desk_left (Ok count) table output
unfolding desk_left desk_exported
exported_count count table output = refl

pub exported_refusal : (why : DeskRefusal) (n : ℕ) (table output : List ℕ) → n ≡ desk_number why → desk_exported (record { refusal = n; count = 0 }) table output ≡ desk_left (Err why) table output
unfolding desk_left desk_exported
exported_refusal why n table output e = rw e

module _ (p l licensed : ℕ) (records table output : List ℕ) (r : DeskDelivery) (table' output' : List ℕ)
    (is : desk_exported r table' output' ≡ desk p l licensed records table output)
  where
    pub in_order_lem : ((i : ℕ) → get_or table' i 0 < 2 ^ 32) → r.refusal ≡ 0 → DeliversInOrder p l (step_records records) table' r.count output'
    unfolding desk_exported
    in_order_lem words none =
        subst (λ (e : DeskResult). DeliversInOrder p l (step_records records) e.table e.count e.output) (sym is)
        (desk_order p l licensed records table output (ap (λ (e : DeskResult). e.refusal) (sym is) ∙ none)
        (subst (λ (e : DeskResult). (i : ℕ) → get_or e.table i 0 < 2 ^ 32) is words))
