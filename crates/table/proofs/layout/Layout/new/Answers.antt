-- `layout::Layout::new` meets its contract.
use Prim.Native.Nat.{◌+◌, ◌<◌}
use native.Mathlib.Omega.{arith}
use mathlib.Core.Path.{refl, ◌∙◌}
use lib.ListN.{length, length-set, replicate}
use lib.Seq.{get_or-set_same}
use Rattle.tree.proofs.LayoutSums.{start_more, first_start}
use Rattle.table.proofs.Rest.{rest_blank, rest_more}
use Rattle.table.proofs.layout.Layout.new.Goals as goal

pub loop-v-init : goal.loop-v-init
loop-v-init c = (
  refl,
  omega arith,
  first_start c.args.tree (replicate 16 c.words_needed-starts.result),
  λ u h k. rest_blank c.words_needed-starts.result u h k ∙ c.words_needed-starts.ensures.0,
)

pub loop-v-preserved : goal.loop-v-preserved
loop-v-preserved c =
    let i = c.loop-v.invariant in
    let n : c.loop-v.v + 1 < length c.loop-v.starts = omega arith in (
      simp length-set i.0,
      rw (get_or-set_same _ _ _ _ n) (omega arith),
      start_more _ c.loop-v.starts _ _ n c.part_words.ensures.0 i.2,
      rest_more c.loop-v.starts _ _ _ i.3,
    )
