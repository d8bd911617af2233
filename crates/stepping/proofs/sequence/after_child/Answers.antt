-- `sequence::after_child` meets its contract.
use mathlib.Core.Path.{ap, sym, ◌∙◌}
use mathlib.Core.Bool.{false≢true}
use Rattle.steps.specs.Rules.{of_child, resume}
use Rattle.stepping.proofs.sequence.after_child.Goals as goal

pub returns-in-Right : goal.returns-in-Right
unfolding resume
returns-in-Right c = rw c.in-Right.is

pub returns-in-Ends : goal.returns-in-Ends
unfolding resume
returns-in-Ends c = rw c.in-Ends.is

pub returns-in-Again : goal.returns-in-Again
unfolding of_child
returns-in-Again c = absurd (false≢true (sym (ap of_child c.in-Again.is) ∙ c.requires))

pub returns-in-Up : goal.returns-in-Up
unfolding of_child
returns-in-Up c = absurd (false≢true (sym (ap of_child c.in-Up.is) ∙ c.requires))
