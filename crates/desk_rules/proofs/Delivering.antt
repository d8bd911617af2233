-- A list at the desk that is not refused is a run of the queue that is not.
use Prim.Native.Nat.{ℕ, ◌*◌}
use mathlib.Core.Path.{◌≡◌, refl, ap, sym, ◌∙◌}
use mathlib.Core.Bool.{Bool, true, false}
use mathlib.Core.List.{List, [], ◌∷◌, foldl}
use lib.ListN.{length}
use Rattle.base.proofs.Cases.{cases, contradiction}
use Rattle.record.specs.declared.StepRecord.{StepRecord}
use Rattle.record.specs.AnswerRecords.{answer_size}
use Rattle.tree.specs.Shape.{Shape}
use Rattle.calls.specs.Refusals.{accepted}
use Rattle.calls.specs.Run.{Played, at_start, play_record, play}
use Rattle.calls.specs.ListOrder.{play_all}
use Rattle.desk_rules.specs.Entries.{is_foreign}
use Rattle.desk_rules.specs.DeskRefusals.{delivers}
use Rattle.desk_rules.specs.Desk.{Served, served, serve_record, serve}
use Rattle.desk_rules.proofs.Serving.{served_delivers, serve_plain, serve_foreign, over}

module _ (s : Shape) (room licensed : ℕ) where
  abbrev on : Served → List StepRecord → Served
  on d rs = foldl (serve_record s room licensed) d rs

  -- a list that is over is refused
  refused_on : (d : Served) (rs : List StepRecord) → delivers d.refusal ≡ false → delivers (on d rs).refusal ≡ false
  refused_on d rs e = ap (λ (x : Served). delivers x.refusal) (over s room licensed d e rs) ∙ e

  -- a foreign entry ends the list, whatever the queue makes of it
  foreign_over : (g : Played) (r : StepRecord) → is_foreign licensed r ≡ true → delivers (serve_record s room licensed (served g) r).refusal ≡ false
  unfolding delivers
  foreign_over g r f =
      let g' : Played = play_record s room g r in
      ap (λ (x : Served). delivers x.refusal) (serve_foreign s room licensed g r f)
      ∙ cases (λ (x : Served). delivers x.refusal ≡ false) (accepted g'.refusal) (λ e. refl) (λ e. served_delivers g' ∙ e)

  delivered_on : (g : Played) (rs : List StepRecord) → delivers (on (served g) rs).refusal ≡ true → on (served g) rs ≡ served (foldl (play_record s room) g rs)
  delivered_on g [] e = refl
  delivered_on g (r ∷ rs) e = by (is_foreign licensed r) refl (delivered_on (play_record s room g r) rs)
    where
      next : Served
      next = serve_record s room licensed (served g) r

      by : (b : Bool) → is_foreign licensed r ≡ b
          → (delivers (on (served (play_record s room g r)) rs).refusal ≡ true → on (served (play_record s room g r)) rs ≡ served (foldl (play_record s room) (play_record s room g r) rs))
          → on next rs ≡ served (foldl (play_record s room) (play_record s room g r) rs)
      by true f ih = contradiction (delivers (on next rs).refusal) e (refused_on next rs (foreign_over g r f))
      by false f ih =
          let is : next ≡ served (play_record s room g r) = serve_plain s room licensed g r f in
          ap (λ (d : Served). on d rs) is ∙ ih (ap (λ (d : Served). delivers (on d rs).refusal) (sym is) ∙ e)

pub serve_delivers : (s : Shape) (licensed : ℕ) (rs : List StepRecord) → delivers (serve s licensed rs).refusal ≡ true → serve s licensed rs ≡ served (play_all s rs)
unfolding serve play_all play
serve_delivers s licensed rs e = delivered_on s (answer_size * length rs) licensed (at_start s) rs e
