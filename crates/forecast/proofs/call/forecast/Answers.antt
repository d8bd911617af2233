-- `call::forecast` meets its contract.
use Rattle.std.specs.Prelude.{Ok}
use Rattle.std.proofs.lemmas.Result.{err_from_is_err_and}
use Prim.Native.Nat.{ℕ, ◌*◌, ◌/◌, ◌≤◌}
use native.Mathlib.Omega.{arith}
use mathlib.Core.Path.{◌≡◌, refl, ap, sym, ◌∙◌}
use lib.ListN.{length}
use Rattle.record.specs.StepRecords.{step_records}
use Rattle.record.specs.AnswerRecords.{answer_size}
use Rattle.record.proofs.Cuts.{records_length}
use Rattle.tree.specs.Shape.{shape_for}
use Rattle.tree.proofs.LayoutSums.{product_most}
use Rattle.calls.specs.Forecast.{record_limit, forecast_refusal}
use Rattle.forecast.proofs.CallLaws.{both_clauses, returns_refused, returns_foreseen, most_allowed, few_begins, limit_small}
use Rattle.forecast.proofs.call.forecast.Goals.{After-record_limit, In_ok-refusal_of}
use Rattle.forecast.proofs.call.forecast.Goals as goal

-- the tests refuse nothing
none_at : (c : In_ok-refusal_of) → let a = c.args in Ok tt ≡ forecast_refusal a.p a.l a.begins.now
none_at c = sym c.in_ok-refusal_of.was ∙ c.refusal_of.ensures

few_at : (c : In_ok-refusal_of) → length c.args.begins.now / 8 ≤ 4000
few_at c = let start = c.args in
    few_begins start.p start.l start.begins.now (none_at c)

pub returns-in_err-refusal_of : goal.returns-in_err-refusal_of
returns-in_err-refusal_of c =
    let p = err_from_is_err_and c.from_residual.result c.from_residual.ensures.1 in
    let b = both_clauses _ _ _ _ (rw (p.1, p.2) (returns_refused _ _ _ _ (sym c.in_err-refusal_of.was ∙ c.refusal_of.ensures))) in
    record { rules = b.0; runs = b.1 }

pub new-tree-requires : goal.new-tree-requires
new-tree-requires c =
    let start = c.args in most_allowed start.p start.l start.begins.now (none_at (goal.at.new-tree-requires c).In_ok-refusal_of)

pub overflow_mul-result : goal.overflow_mul-result
overflow_mul-result c = omega (arith, few_at (goal.at.overflow_mul-result c).In_ok-refusal_of)

-- the limit is that of the tree for p and l
limit_at : (c : After-record_limit) → let a = c.args in c.record_limit.result ≡ record_limit (shape_for a.p a.l)
limit_at c = rw (← c.new-tree.ensures) c.record_limit.ensures

pub overflow_mul-result-2 : goal.overflow_mul-result-2
overflow_mul-result-2 c =
    let many = length c.args.begins.now / 8 in
    omega (arith, product_most many c.record_limit.result 4000 1000 (few_at (goal.at.overflow_mul-result-2 c).In_ok-refusal_of) (rw (limit_at (goal.at.overflow_mul-result-2 c).After-record_limit) (limit_small _ _)))

pub returns : goal.returns
unfolding answer_size
returns c =
    let start = c.args in
    let many = sym (records_length start.begins.now) in
    let b = both_clauses start.p start.l start.begins.now _
    (returns_foreseen start.p start.l start.begins.now (none_at (goal.at.returns c).In_ok-refusal_of) _ _ _
    (rw (← c.new-tree.ensures) c.words_needed.ensures.0)
    (ap (λ (n : ℕ). answer_size * n) many)
    (ap (λ (n : ℕ). n * c.record_limit.result) many ∙ ap (λ (n : ℕ). length (step_records start.begins.now) * n) (limit_at (goal.at.returns c).After-record_limit))) in
    record { rules = b.0; runs = b.1 }
