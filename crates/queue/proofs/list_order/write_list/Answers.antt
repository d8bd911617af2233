-- `list_order::write_list` meets its contract.
use Prim.Native.Nat.{◌*◌}
use native.Mathlib.Omega.{arith}
use mathlib.Core.Path.{◌≡◌, ◌∙◌}
use lib.ListN.{take}
use Rattle.tree.specs.Layout.{words_needed}
use Rattle.tree.specs.Shape.{shape_for}
use Rattle.tree.specs.Clauses.SoundTree.{SoundTree}
use Rattle.steps.proofs.Limits.{allowed_most}
use Rattle.calls.specs.ListOrder.{ListResult}
use Rattle.queue.specs.Clauses.ListingCall.{list_from}
use Rattle.queue.proofs.ListLaws.{listing_tree, listing_nodes, listing_words, list_short, list_written_lem}
use Rattle.queue.proofs.list_order.write_list.Goals.{After-words_needed}
use Rattle.queue.proofs.list_order.write_list.Goals as goal

pub new-tree-requires : goal.new-tree-requires
new-tree-requires c = (allowed_most _ c.requires.operations).1

needed : (c : After-words_needed) → let a = c.args in c.words_needed.result ≡ words_needed (shape_for a.p a.l)
needed c = rw (← c.new-tree.ensures) c.words_needed.ensures.0

pub slice_bounds-words-end : goal.slice_bounds-words-end
slice_bounds-words-end c = listing_words _ _ _ _ c.requires _ (needed (goal.at.slice_bounds-words-end c).After-words_needed)

pub slice_bounds-last_root-end : goal.slice_bounds-last_root-end
slice_bounds-last_root-end c = listing_nodes _ _ _ _ c.requires

-- the nodes' heads and the words are a sound tree
tree : (c : After-words_needed) → let a = c.args in SoundTree c.new-layout.result (take (2 * a.p) a.heads.now) (take c.words_needed.result a.table.now)
tree c = rw (c.new-layout.ensures ∙ c.new-tree.ensures, needed c) (listing_tree _ _ _ _ c.requires)

-- the list that was asked for is that of the layout and the words
asked : (c : After-words_needed) → let a = c.args in (out : ListResult) → out ≡ list_from c.new-layout.result (take c.words_needed.result a.table.now) a.table.now a.output.now
    → out ≡ list_from (shape_for a.p a.l) (take (words_needed (shape_for a.p a.l)) a.table.now) a.table.now a.output.now
asked c out e = rw (c.new-layout.ensures ∙ c.new-tree.ensures, needed c) at e

pub last_root-last-requires : goal.last_root-last-requires
last_root-last-requires c = tree (goal.at.last_root-last-requires c).After-words_needed

pub list_length-length-requires : goal.list_length-length-requires
list_length-length-requires c =
    record { one = _; holds = record { tree = tree (goal.at.list_length-length-requires c).After-words_needed; last = c.last_root-last.ensures } }

pub returns-then-output-length : goal.returns-then-output-length
returns-then-output-length c =
    asked (goal.at.returns-then-output-length c).After-words_needed _
    (list_short _ _ _ _ (omega (arith, c.if-output-length.true, c.list_length-length.ensures.1)))

pub write_order-requires : goal.write_order-requires
write_order-requires c =
    record {
      heads = _;
      holds = record { tree = tree (goal.at.write_order-requires c).After-words_needed; last = c.last_root-last.ensures };
      fits = omega (arith, c.if-output-length.false, c.list_length-length.ensures.1);
    }

pub returns : goal.returns
returns c =
    let n = c.list_length-length.ensures.1 in
    asked (goal.at.returns c).After-words_needed _
    (list_written_lem _ _ _ _ _ _ n (omega (arith, c.if-output-length.false, n)) c.write_order.ensures)
