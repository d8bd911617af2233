-- `layout::Tree::part_words` meets its contract. By cases on node 0.
use native.Mathlib.Omega.{arith}
use Rattle.tree.specs.Layout.{part_words}
use Rattle.tree.proofs.Sizes.{words_of}
use Rattle.table.proofs.layout.Tree.part_words.Goals as goal

pub returns-then-v-eq0 : goal.returns-then-v-eq0
unfolding part_words
returns-then-v-eq0 c = (rw c.if-v-eq0.true, omega arith)

pub returns : goal.returns
returns c = (omega (arith, words_of c.args.self c.args.v (omega arith), c.last_place.ensures.0), omega arith)
