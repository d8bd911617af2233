-- `deliver::deliver` meets its contract.
use Prim.Native.Nat.{◌/◌, ◌%◌}
use native.Mathlib.Omega.{arith}
use mathlib.Core.Path.{◌≡◌, refl, sym}
use mathlib.Core.Logic.{◌⊎◌, ◌≢◌, inl, inr}
use lib.ListN.{length}
use lib.Seq.{length-take-le}
use borrow.Author.Rules.{rules}
use borrow.Author.Tests.{eq-eqb}
use Rattle.std.specs.Prelude.{Err}
use Rattle.desk_rules.specs.declared.DeskRefusal.TheVariants.{Queue}
use Rattle.desk.proofs.Tests.{all_allowed, settings_down, licence_down}
use Rattle.desk.proofs.Foreign.{none_foreign, cut_within, ends_foreign, rejoined}
use Rattle.desk.proofs.deliver.deliver.Goals.{then-records-ne0-via-then-records-ne0, then-records-ne0-via-else-records-ne0+then-before-records}
use Rattle.desk.proofs.deliver.deliver.Goals as goal

pub returns-in_err-accepted : goal.returns-in_err-accepted
returns-in_err-accepted c =
    let told = c.otq_forecast-settings in
    let is : c.from_residual.result ≡ Err (Queue told.result.refusal) = search rules in
    rw is (settings_down _ _ told.result _ refl told.ensures.rules _ _ _ _ c.in_err-accepted.ensures.0)

pub returns-then-p-licensed : goal.returns-then-p-licensed
returns-then-p-licensed c =
    let told = c.otq_forecast-settings in
    licence_down _ _ told.result _ refl told.ensures.rules _ _ _ _ c.in_ok-accepted.ensures c.if-p-licensed.true

pub deliver_plain-requires : goal.deliver_plain-requires
deliver_plain-requires c =
    let n = c.before_foreign-before.result in
    let length_of = length c.args.records.now in
    let either : (length_of % 8 ≢ 0) ⊎ (n ≡ length_of / 8) =
    elim c.then-records-ne0.branch [
      | then-records-ne0-via-then-records-ne0 w ↦ inl w.if-records-ne0.true
      | then-records-ne0-via-else-records-ne0+then-before-records w ↦ inr w.if-before-records.true
    ] in
    let told = c.otq_forecast-settings in (
      all_allowed _ _ told.result _ refl told.ensures.rules _ c.in_ok-accepted.ensures (omega arith),
      none_foreign _ _ n c.before_foreign-before.ensures either (λ torn. torn) (λ all. eq-eqb _ _ all),
    )

-- the list has a foreign entry, and is cut behind the first
pub overflow_mul-before : goal.overflow_mul-before
overflow_mul-before c = omega (arith, cut_within _ _ _ c.before_foreign-before.ensures (omega arith) c.if-before-records.false)

pub overflow_add-before : goal.overflow_add-before
overflow_add-before c = omega (arith, cut_within _ _ _ c.before_foreign-before.ensures (omega arith) c.if-before-records.false)

pub slice_bounds-refuse_foreign-end : goal.slice_bounds-refuse_foreign-end
slice_bounds-refuse_foreign-end c = sym (length-take-le _ _ (cut_within _ _ _ c.before_foreign-before.ensures (omega arith) c.if-before-records.false))

pub refuse_foreign-requires : goal.refuse_foreign-requires
refuse_foreign-requires c =
    let told = c.otq_forecast-settings in (
      all_allowed _ _ told.result _ refl told.ensures.rules _ c.in_ok-accepted.ensures (omega arith),
      ends_foreign _ _ _ c.before_foreign-before.ensures (omega arith) c.if-before-records.false,
    )

pub returns : goal.returns
returns c = rejoined _ _ _ c.before_foreign-before.ensures (omega arith) c.if-before-records.false _ _ _ _ _ (λ more. c.refuse_foreign.ensures more _)
