-- `build_steps::step_c3n_up` meets its contract.
use mathlib.Core.Path.{◌≡◌, refl, sym, ◌∙◌}
use Rattle.steps.specs.declared.Step.TheVariants.{C3N}
use Rattle.stepping.specs.Clauses.Next.{step_in}
use Rattle.stepping.proofs.StepNames.{same_registers, busy}
use borrow.Author.Rules.{rules}
use Rattle.build_steps.proofs.step_c3n_up.Goals.{In-C3N}
use Rattle.build_steps.proofs.step_c3n_up.Goals as goal

at : (c : In-C3N) → step_in c.args.q.status ≡ C3N c.in-C3N.visit c.in-C3N.left c.in-C3N.right c.in-C3N.puts c.in-C3N.takes
at c = sym c.step_in.ensures ∙ c.in-C3N.is

pub returns-in_default : goal.returns-in_default
returns-in_default c = (λ a b i j k e. absurd (c.in_default.not-C3N a b i j k (c.step_in.ensures ∙ e)), λ _. refl)

pub moved-requires : goal.moved-requires
moved-requires c = (search rules, busy _ (at (goal.at.moved-requires c).In-C3N) tt)

pub returns : goal.returns
returns c =
    let here = at (goal.at.returns c).In-C3N in (
      λ _ _ _ _ _ e. rw (← (same_registers (sym here ∙ e)).0, ← c.above.ensures) c.moved.ensures,
      λ no. absurd (no _ _ _ _ _ here),
    )
