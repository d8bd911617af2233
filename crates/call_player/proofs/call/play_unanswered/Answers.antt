-- `call::play_unanswered` meets its contract.
use mathlib.Core.List.{[]}
use mathlib.Core.Path.{refl, sym}
use mathlib.Core.Logic.{inl}
use Rattle.answer_log.proofs.Written.{written_nowhere}
use Rattle.call_player.proofs.call.play_unanswered.Goals as goal

pub play_call-requires : goal.play_call-requires
play_call-requires c =
    let k = c.requires in
    record { processes = k.processes; most = k.most; ones = k.ones; enough = k.enough; bounded = inl refl }

pub returns : goal.returns
returns c =
    let o = c.play_call.ensures in record {
      result = record {
        ended = o.result.ended;
        taken = o.result.taken;
        answered = o.result.answered;
        equal = o.result.equal;
        words = o.result.words;
        nodes = o.result.nodes;
        bytes = sym (written_nowhere [] _ refl);
      };
      rest = o.rest;
    }
