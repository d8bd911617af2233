-- What a list leaves at the desk, by whether it has a foreign entry. For general H.
use Rattle.std.specs.Prelude.{if◌then◌else◌, Err}
use Prim.Native.Nat.{ℕ, ◌*◌, ◌≤◌}
use native.Mathlib.Omega.{arith}
use mathlib.Core.Path.{◌≡◌, refl, ap, sym, ◌∙◌}
use mathlib.Core.Bool.{true, false, ◌&&◌}
use mathlib.Core.List.{List, [], ◌∷◌, ◌++◌, foldl, foldl-append}
use lib.ListN.{length, length-append}
use lib.Dec.{eqb}
use borrow.Author.Tests.{eqb-true, ne_eqb}
use Rattle.base.specs.Members.{All}
use Rattle.base.proofs.Cases.{cases, and-true}
use Rattle.record.specs.declared.StepRecord.{StepRecord}
use Rattle.record.specs.StepRecords.{is_step, is_begin_put}
use Rattle.record.specs.AnswerRecords.{answer_size}
use Rattle.tree.specs.Shape.{Shape}
use Rattle.calls.specs.Refusals.{accepted}
use Rattle.calls.specs.Run.{Played, at_start, play_record, play}
use Rattle.calls.specs.ListOrder.{play_all}
use Rattle.calls.proofs.Played.{begin_memory, play_append}
use Rattle.calls.proofs.Rooms.{more_room}
use Rattle.desk_rules.specs.declared.DeskRefusal.TheVariants.{ForeignEntry}
use Rattle.desk_rules.specs.Entries.{is_entry, is_foreign}
use Rattle.desk_rules.specs.DeskRefusals.{delivers}
use Rattle.desk_rules.specs.Desk.{Served, served, serve_record, serve}
use Rattle.desk_rules.proofs.Serving.{served_delivers, serve_foreign, served_on, over}

-- a foreign entry is a begin
foreign_begins : (licensed : ℕ) (r : StepRecord) → is_foreign licensed r ≡ true → is_step r ≡ false
unfolding is_foreign is_begin_put is_step
foreign_begins licensed r e =
    let one : r.kind ≡ 1 = eqb-true r.kind 1 (and-true (eqb r.kind 1) _ (and-true (eqb r.kind 1 && is_entry r.value) _ e).0).0 in
    ne_eqb r.kind 0 (λ z. omega arith)

module _ (s : Shape) (tall : 1 ≤ s.height) (licensed : ℕ) where
  -- a list without one
  pub serve_all : (rs : List StepRecord) → All (λ r. is_foreign licensed r ≡ false) rs → serve s licensed rs ≡ served (play_all s rs)
  unfolding serve play_all play
  serve_all rs plain = served_on s (answer_size * length rs) licensed (at_start s) rs plain

  -- a list whose first one is r
  module _ (us : List StepRecord) (r : StepRecord) (vs : List StepRecord) (plain : All (λ r. is_foreign licensed r ≡ false) us) (foreign : is_foreign licensed r ≡ true) where
    abbrev room : ℕ
    room = answer_size * length (us ++ (r ∷ vs))

    abbrev g : Played
    g = play_all s us

    abbrev g' : Played
    g' = play_all s (us ++ (r ∷ []))

    before : play s room us ≡ g
    unfolding answer_size
    before = more_room s tall us room (omega (arith, length-append us (r ∷ vs)))

    with_it : play_record s room g r ≡ g'
    unfolding answer_size
    with_it =
        ap (λ (x : Played). play_record s room x r) (sym before)
        ∙ sym (play_append s room us (r ∷ []))
        ∙ more_room s tall (us ++ (r ∷ [])) room (omega (arith, length-append us (r ∷ vs), length-append us (r ∷ [])))

    pub foreign_memory : (play_all s (us ++ (r ∷ []))).machine.memory ≡ (play_all s us).machine.memory
    foreign_memory = ap (λ (x : Played). x.machine.memory) (sym with_it) ∙ begin_memory s room g r (foreign_begins licensed r foreign)

    -- what it leaves
    abbrev ended : Served
    ended = if accepted g'.refusal then record { run = g; refusal = Err ForeignEntry } else served g'

    ended_over : delivers ended.refusal ≡ false
    unfolding delivers
    ended_over =
        cases (λ (d : Served). delivers d.refusal ≡ false) (accepted g'.refusal) (λ e. refl) (λ e. served_delivers g' ∙ e)

    pub serve_at : serve s licensed (us ++ (r ∷ vs))
        ≡ (if accepted (play_all s (us ++ (r ∷ []))).refusal then record { run = play_all s us; refusal = Err ForeignEntry } else served (play_all s (us ++ (r ∷ []))))
    unfolding serve play
    serve_at =
        foldl-append (serve_record s room licensed) (served (at_start s)) us (r ∷ vs)
        ∙ ap (λ (d : Served). foldl (serve_record s room licensed) (serve_record s room licensed d r) vs) (served_on s room licensed (at_start s) us plain ∙ ap served first)
        ∙ ap (λ (d : Served). foldl (serve_record s room licensed) d vs) (serve_foreign s room licensed g r foreign ∙ ap next with_it)
        ∙ over s room licensed ended ended_over vs
      where
        first : foldl (play_record s room) (at_start s) us ≡ g
        first = before

        next : Played → Served
        next x = if accepted x.refusal then record { run = g; refusal = Err ForeignEntry } else served x
