-- `build_steps::same_totals` meets its contract.
use mathlib.Core.Path.{ap, sym, ◌∙◌}
use borrow.Author.Tests.{eq-eqb, ne_eqb}
use Rattle.tree.specs.declared.Totals.{Totals}
use Rattle.steps.specs.Rules.{same_totals}
use Rattle.tree.specs.Clauses.Access.{totals_of}
use Rattle.build_steps.proofs.same_totals.Goals as goal

pub returns-then-puts-old : goal.returns-then-puts-old
unfolding same_totals totals_of
returns-then-puts-old c = λ b e. rw (eq-eqb _ _ (c.if-puts-old.true ∙ ap (λ (t : Totals). t.puts) e), ap (λ (t : Totals). t.takes) e)

pub returns-else-puts-old : goal.returns-else-puts-old
unfolding same_totals totals_of
returns-else-puts-old c = λ b e. rw (ap (λ (t : Totals). t.puts) e, ne_eqb _ _ (λ f. c.if-puts-old.false (f ∙ sym (ap (λ (t : Totals). t.puts) e))))
