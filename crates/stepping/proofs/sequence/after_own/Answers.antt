-- `sequence::after_own` meets its contract.
use mathlib.Core.Path.{◌≡◌, ◌∙◌}
use mathlib.Core.Bool.{false, true≢false}
use mathlib.Core.Logic.{◌⊎◌, inl, inr}
use Rattle.steps.specs.declared.Visit.{Visit}
use Rattle.steps.specs.declared.After.{After}
use Rattle.steps.specs.declared.After.TheVariants.{Right, Ends, Up}
use Rattle.steps.specs.Rules.{above, of_child, resume}
use Rattle.stepping.proofs.sequence.after_own.Goals as goal

-- in the arm of the way up
goes_up : (a : After) (w : Visit) → of_child a ≡ false → (a ≡ Right) ⊎ ((a ≡ Ends) ⊎ (a ≡ Up)) → above w.node ≡ resume a w
unfolding of_child resume
goes_up a w e (inl is) = absurd (true≢false (rw is at e))
goes_up a w e (inr (inl is)) = absurd (true≢false (rw is at e))
goes_up a w e (inr (inr is)) = rw is

pub returns-in-Again : goal.returns-in-Again
unfolding resume
returns-in-Again c = rw c.in-Again.is

pub returns-in-Right : goal.returns-in-Right
returns-in-Right c = c.above.ensures ∙ goes_up _ _ c.requires c.in-Right.is
