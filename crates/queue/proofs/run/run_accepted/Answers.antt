-- `run::run_accepted` meets its contract.
use mathlib.Core.Path.{refl, sym}
use mathlib.Core.Logic.{inr}
use Rattle.queue.proofs.Accepted.{accepted_heads, accepted_nodes, accepted_callable}
use Rattle.queue.proofs.RunLaws.{run_left_lem}
use Rattle.queue.proofs.run.run_accepted.Goals as goal

pub slice_bounds-heads-end : goal.slice_bounds-heads-end
slice_bounds-heads-end c = accepted_heads _ _ _ _ c.requires _ refl

pub slice_bounds-play_call-end : goal.slice_bounds-play_call-end
slice_bounds-play_call-end c = sym (accepted_nodes _ _ _ _ c.requires _ refl)

pub play_call-o-requires : goal.play_call-o-requires
play_call-o-requires c =
    accepted_callable _ _ _ _ c.requires _ refl (inr refl)

pub returns : goal.returns
returns c =
    run_left_lem _ _ _ _ _ c.requires c.play_call-o.result _ _ _ _ c.play_call-o.ensures.result c.play_call-o.ensures.rest
