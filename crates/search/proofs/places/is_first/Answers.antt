-- `places::is_first` meets its contract.
use native.Mathlib.Omega.{arith}
use borrow.Author.Tests.{ltb-true, lt-ltb}
use Rattle.tree.specs.Blocks.{word_in}
use Rattle.search.proofs.places.is_first.Goals as goal

pub returns-then-part-i-clause-only : goal.returns-then-part-i-clause-only
unfolding word_in
returns-then-part-i-clause-only c = λ f. absurd (omega (arith, f.upto))

pub returns-clause-is : goal.returns-clause-is
unfolding word_in
returns-clause-is c = λ e. record { some = omega arith; most = omega arith; past = ltb-true _ _ e; upto = c.if-part-i.false }

pub returns-clause-only : goal.returns-clause-only
unfolding word_in
returns-clause-only c = λ f. lt-ltb _ _ f.past
