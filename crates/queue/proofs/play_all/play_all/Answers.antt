-- `play_all::play_all` meets its contract.
use mathlib.Core.Path.{refl, sym, ◌∙◌}
use mathlib.Core.Logic.{inl}
use Rattle.queue.proofs.Accepted.{accepted_heads, accepted_nodes, accepted_callable}
use Rattle.queue.proofs.PlayAll.{played_all}
use Rattle.queue.proofs.play_all.play_all.Goals as goal

pub slice_bounds-play_unanswered-end : goal.slice_bounds-play_unanswered-end
slice_bounds-play_unanswered-end c =
    accepted_heads _ _ _ _ c.requires.call _ c.requires.ones

pub slice_bounds-play_unanswered-end-2 : goal.slice_bounds-play_unanswered-end-2
slice_bounds-play_unanswered-end-2 c =
    sym (accepted_nodes _ _ _ _ c.requires.call _ c.requires.ones)

pub play_unanswered-requires : goal.play_unanswered-requires
play_unanswered-requires c =
    accepted_callable _ _ _ _ c.requires.call _ c.requires.ones (inl refl)

pub returns : goal.returns
returns c =
    let nodes = c.play_unanswered.auto.heads ∙ accepted_nodes _ _ _ _ c.requires.call _ c.requires.ones in
    played_all _ _ _ _ c.requires.call _ _ _ _ _ nodes c.play_unanswered.ensures.result c.play_unanswered.ensures.rest
