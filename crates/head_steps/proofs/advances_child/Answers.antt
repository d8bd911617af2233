-- `head_steps::advances_child` meets its contract.
use mathlib.Core.Path.{◌≡◌, refl, ap, sym, ◌∙◌}
use mathlib.Core.Bool.{true, false}
use mathlib.Core.Logic.{◌⊎◌, inl, inr}
use Rattle.steps.specs.declared.After.{After}
use Rattle.steps.specs.declared.After.TheVariants.{Right, Ends, Again, Up}
use Rattle.steps.specs.declared.Step.TheVariants.{V3}
use Rattle.steps.specs.Rules.{of_child}
use Rattle.stepping.specs.Clauses.Next.{step_in}
use Rattle.stepping.proofs.StepNames.{same_advance}
use Rattle.head_steps.proofs.advances_child.Goals.{In-V3}
use Rattle.head_steps.proofs.advances_child.Goals as goal

-- by the arm
of_children : (a : After) → (a ≡ Right) ⊎ (a ≡ Ends) → true ≡ of_child a
unfolding of_child
of_children a (inl is) = rw is
of_children a (inr is) = rw is

of_own : (a : After) → (a ≡ Again) ⊎ (a ≡ Up) → false ≡ of_child a
unfolding of_child
of_own a (inl is) = rw is
of_own a (inr is) = rw is

at : (c : In-V3) → step_in c.args.q.status ≡ V3 c.in-V3.after c.in-V3.visit c.in-V3.node c.in-V3.place
at c = sym c.step_in.ensures ∙ c.in-V3.is

pub returns-in_default : goal.returns-in_default
returns-in_default c = (λ a b i j e. absurd (c.in_default.not-V3 a b i j (c.step_in.ensures ∙ e)), λ _. refl)

pub returns-in-Right : goal.returns-in-Right
returns-in-Right c =
    let here = at (goal.at.returns-in-Right c).In-V3 in
    (λ _ _ _ _ e. of_children _ c.in-Right.is ∙ ap of_child (same_advance (sym here ∙ e)).0, λ no. absurd (no _ _ _ _ here))

pub returns-in-Again : goal.returns-in-Again
returns-in-Again c =
    let here = at (goal.at.returns-in-Again c).In-V3 in
    (λ _ _ _ _ e. of_own _ c.in-Again.is ∙ ap of_child (same_advance (sym here ∙ e)).0, λ no. absurd (no _ _ _ _ here))
