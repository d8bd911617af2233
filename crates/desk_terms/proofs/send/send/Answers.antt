-- `send::send` meets its contract. The loop's invariant: the bytes of the first i terms are stored.
use Prim.Native.Nat.{◌*◌}
use native.Mathlib.Omega.{arith}
use mathlib.Core.Path.{◌≡◌, ◌∙◌}
use lib.ListN.{length}
use Rattle.base.proofs.Stored.{stored_part}
use Rattle.encoding.proofs.Lengths.{bytes_length}
use Rattle.encoding.proofs.LittleEndian.{word_bytes}
use Rattle.desk_rules.specs.Entries.{term_size}
use Rattle.desk_terms.proofs.Sent.{sent_none, sent_more, sent_all}
use Rattle.desk_terms.proofs.send.send.Goals as goal

pub loop-i-init : goal.loop-i-init
loop-i-init c = sent_none c.args.terms.now _

pub slice_bounds-copy_from_slice-end : goal.slice_bounds-copy_from_slice-end
unfolding term_size
slice_bounds-copy_from_slice-end c = omega (arith, c.requires, c.loop-i-test.true, c.loop-i.auto.output)

pub loop-i-preserved : goal.loop-i-preserved
unfolding term_size
loop-i-preserved c =
    let stored = stored_part _ _ (4 * c.loop-i.i) 4 _ (omega (arith, c.requires, c.loop-i-test.true, c.loop-i.auto.output)) (bytes_length 4 _)
    (c.copy_from_slice.ensures.after ∙ c.to_le_bytes.ensures ∙ word_bytes _) in
    sent_more _ _ _ c.loop-i-test.true c.loop-i.invariant stored.bytes

pub returns : goal.returns
returns c =
    let e : c.loop-i.i ≡ length c.args.terms.now = omega (arith, c.loop-i-test.false, c.loop-i.auto.i-end) in
    sent_all _ _ c.requires (rw e at c.loop-i.invariant)
