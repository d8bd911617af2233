-- `build_steps::step_c3r` meets its contract.
use native.Mathlib.Omega.{arith}
use mathlib.Core.Path.{◌≡◌, refl, sym, ◌∙◌}
use Rattle.tree.specs.Shape.{right_of}
use Rattle.tree.specs.Memory.{block}
use Rattle.tree.specs.Clauses.Access.{totals_of}
use Rattle.steps.specs.declared.Step.TheVariants.{C3R}
use Rattle.steps.specs.Rules.{step, go}
use Rattle.stepping.specs.Clauses.Next.{step_in}
use Rattle.steps.specs.Clauses.Ready.{Sums}
use Rattle.stepping.proofs.StepNames.{busy}
use borrow.Author.Rules.{rules}
use Rattle.build_steps.proofs.step_c3r.Goals.{In-C3R}
use Rattle.build_steps.proofs.step_c3r.Goals as goal

at : (c : In-C3R) → step_in c.args.q.status ≡ C3R c.in-C3R.visit c.in-C3R.left c.in-C3R.right c.in-C3R.puts c.in-C3R.takes
at c = sym c.step_in.ensures ∙ c.in-C3R.is

-- what is required of the memory at this C3R
sums : (c : In-C3R) → let a = c.args in Sums a.layout.now a.table.now c.in-C3R.visit c.in-C3R.right c.in-C3R.puts c.in-C3R.takes
sums c = c.requires.1 _ _ _ _ _ (at c)

pub returns-in_default : goal.returns-in_default
returns-in_default c = λ number. (λ a b i j k e. absurd (c.in_default.not-C3R a b i j k (c.step_in.ensures ∙ e)), λ _. (refl, refl))

pub overflow_mul-visit : goal.overflow_mul-visit
overflow_mul-visit c = let p = sums (goal.at.overflow_mul-visit c).In-C3R in search rules

pub overflow_add-visit : goal.overflow_add-visit
overflow_add-visit c = let p = sums (goal.at.overflow_add-visit c).In-C3R in search rules

pub totals_at-y-requires : goal.totals_at-y-requires
totals_at-y-requires c = (sums (goal.at.totals_at-y-requires c).In-C3R).place

pub overflow_add-puts : goal.overflow_add-puts
unfolding totals_of
overflow_add-puts c = rw c.totals_at-y.ensures (record { fits = omega (arith, (sums (goal.at.overflow_add-puts c).In-C3R).puts_low) })

pub overflow_add-takes : goal.overflow_add-takes
unfolding totals_of
overflow_add-takes c = rw c.totals_at-y.ensures (record { fits = omega (arith, (sums (goal.at.overflow_add-takes c).In-C3R).takes_low) })

pub moved-requires : goal.moved-requires
moved-requires c = (c.requires.0, busy _ (at (goal.at.moved-requires c).In-C3R) tt)

pub returns : goal.returns
unfolding step go right_of block totals_of
returns c =
    let here = at (goal.at.returns c).In-C3R in λ number. (
      λ _ _ _ _ _ _. rw c.moved.ensures (
        refl,
        λ k o heads. rw (here, c.totals_at-y.ensures),
      ),
      λ no. absurd (no _ _ _ _ _ here),
    )
