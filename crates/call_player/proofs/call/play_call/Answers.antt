-- `call::play_call` meets its contract.
use Prim.Native.Nat.{ℕ}
use native.Mathlib.Omega.{arith}
use mathlib.Core.Path.{◌≡◌, ap, sym, ◌∙◌, subst}
use mathlib.Core.List.{List}
use lib.ListN.{length, take, drop, replicate}
use lib.Seq.{take_at, drop_at, length-take-le}
use Rattle.tree.specs.Shape.{shape_for}
use Rattle.tree.specs.Layout.{words_needed}
use Rattle.steps.proofs.Limits.{allowed_most}
use Rattle.player.specs.Clauses.PlayCalls.{AtStart}
use Rattle.call_player.proofs.PlayCallLaws.{call_starts}
use Rattle.call_player.proofs.call.play_call.Goals.{After-fill}
use Rattle.call_player.proofs.call.play_call.Goals as goal

pub new-tree-requires : goal.new-tree-requires
new-tree-requires c = (allowed_most _ c.requires.most).1

needed_is : (c : After-fill) → let a = c.args in c.words_needed-needed.result ≡ words_needed (shape_for a.p a.l)
needed_is c = rw (← c.new-tree.ensures) c.words_needed-needed.ensures.0

part_long : (c : After-fill) → length (take c.words_needed-needed.result c.args.table.now) ≡ c.words_needed-needed.result
part_long c = length-take-le _ _ (omega (arith, needed_is c, c.requires.enough))

-- the words needed, which are cleared
cleared_long : (c : After-fill) → length c.fill.new.self ≡ c.words_needed-needed.result
cleared_long c = c.fill.ensures.len ∙ part_long c

cleared : (c : After-fill) → let a = c.args in c.fill.new.self ≡ replicate (words_needed (shape_for a.p a.l)) 0
cleared c = c.fill.ensures.after (λ y e. e) ∙ ap (λ (n : ℕ). replicate n 0) (part_long c ∙ needed_is c)

pub play-requires : goal.play-requires
play-requires c =
    let a = c.args in
    let here = (goal.at.play-requires c).After-fill in
    let part = take_at c.fill.new.self _ c.words_needed-needed.result (cleared_long here) ∙ cleared here in
    rw (c.new-layout.ensures ∙ c.new-tree.ensures)
    (subst (λ (t : List ℕ). AtStart (shape_for a.p a.l) a.heads.now t a.room (length a.out.now)) (sym part) (call_starts c.requires))

pub returns : goal.returns
returns c =
    let here = (goal.at.returns c).After-fill in
    let played = c.play.new.table in
    let same = cleared_long here in
    let n = c.play.auto.table ∙ ap length (take_at c.fill.new.self _ c.words_needed-needed.result same) ∙ same ∙ needed_is here in record {
      result = rw (take_at played _ _ n, ← (c.new-layout.ensures ∙ c.new-tree.ensures)) c.play.ensures;
      rest = drop_at played _ _ n ∙ drop_at c.fill.new.self _ _ same ∙ ap (λ (k : ℕ). drop k c.args.table.now) (needed_is here);
    }
