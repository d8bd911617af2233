-- `build_steps::step_c3l` meets its contract.
use mathlib.Core.Path.{◌≡◌, refl, sym, ◌∙◌}
use Rattle.tree.specs.Shape.{left_of}
use Rattle.tree.specs.Memory.{block}
use Rattle.tree.specs.Clauses.Access.{totals_of}
use Rattle.steps.specs.declared.Step.TheVariants.{C3L}
use Rattle.steps.specs.Rules.{step, go}
use Rattle.stepping.specs.Clauses.Next.{step_in}
use Rattle.stepping.proofs.StepNames.{busy}
use borrow.Author.Rules.{rules}
use Rattle.build_steps.proofs.step_c3l.Goals.{In-C3L}
use Rattle.build_steps.proofs.step_c3l.Goals as goal

at : (c : In-C3L) → step_in c.args.q.status ≡ C3L c.in-C3L.visit c.in-C3L.left c.in-C3L.right
at c = sym c.step_in.ensures ∙ c.in-C3L.is

pub returns-in_default : goal.returns-in_default
returns-in_default c = λ number. (λ a b i e. absurd (c.in_default.not-C3L a b i (c.step_in.ensures ∙ e)), λ _. (refl, refl))

pub overflow_mul-visit : goal.overflow_mul-visit
overflow_mul-visit c = let p = c.requires.1 _ _ _ (at (goal.at.overflow_mul-visit c).In-C3L) in search rules

pub totals_at-x-requires : goal.totals_at-x-requires
totals_at-x-requires c = let p = c.requires.1 _ _ _ (at (goal.at.totals_at-x-requires c).In-C3L) in search rules

pub moved-requires : goal.moved-requires
moved-requires c = (search rules, busy _ (at (goal.at.moved-requires c).In-C3L) tt)

pub returns : goal.returns
unfolding step go left_of block totals_of
returns c =
    let here = at (goal.at.returns c).In-C3L in λ number. (
      λ _ _ _ _. rw c.moved.ensures (
        refl,
        λ k o heads. rw (here, c.totals_at-x.ensures),
      ),
      λ no. absurd (no _ _ _ here),
    )
