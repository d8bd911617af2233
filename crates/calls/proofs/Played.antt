-- What a run leaves is what the records that it took leave.
use Rattle.std.specs.Prelude.{if◌then◌else◌}
use Prim.Native.Nat.{ℕ, ◌+◌, ◌*◌, ◌-◌, ◌≤◌}
use native.Mathlib.Omega.{arith}
use mathlib.Core.Path.{◌≡◌, refl, ap, sym, ◌∙◌, subst}
use mathlib.Core.Bool.{Bool, true, false, not}
use mathlib.Core.List.{List, [], ◌∷◌, ◌++◌, foldl, append-nil, append_assoc}
use lib.ListN.{length, take, length-append}
use lib.Seq.{append_snoc, take-append_seam, take-length}
use borrow.Author.Tests.{not-true, not-false}
use Rattle.base.proofs.Cases.{cases, contradiction}
use Rattle.record.specs.declared.StepRecord.{StepRecord}
use Rattle.record.specs.StepRecords.{is_step}
use Rattle.record.specs.AnswerRecords.{answer_size}
use Rattle.tree.specs.Shape.{Shape}
use Rattle.steps.specs.Machine.{Machine, process_of, with_process, begin}
use Rattle.calls.specs.Refusals.{Acceptance, accepted, record_refusal}
use Rattle.calls.specs.Numbered.{next_after, numbered_after, numbered}
use Rattle.calls.specs.Run.{take_record, Played, at_start, taking, refusing, play_record, play}
use Rattle.calls.specs.History.{course_start, course_after, machine_after}
use Rattle.calls.proofs.Numbers.{numbered_snoc}
use Rattle.calls.proofs.Legal.{Accepted, Legal, none, more, answers_after, answers_along, accept, answers_room}
use Rattle.calls.proofs.Histories.{machine_snoc, answers_snoc}
use Rattle.calls.specs.CallsBy.{play_record_by, play_by}
use Rattle.calls.proofs.RunsBy.{by_append, by_over, by_taken, by_refused}

-- a run over records rs, so far: it took the first of them, and all while nothing was refused
record Tracks (s : Shape) (room : ℕ) (rs : List StepRecord) (g : Played) : Type 0 where
  took : List StepRecord
  rest : List StepRecord
  cut : rs ≡ took ++ rest
  count : g.taken ≡ length took
  all : accepted g.refusal ≡ true → rest ≡ []
  machine : g.machine ≡ machine_after s (numbered took)
  answers : g.answers ≡ answers_along s (numbered took)
  legal : Legal s (numbered took)
  has_room : answer_size * length g.answers ≤ room

module _ (s : Shape) (room : ℕ) where
  tracks_start : Tracks s room [] (at_start s)
  unfolding at_start machine_after course_after course_start answers_along answers_after numbered numbered_after
  tracks_start =
      record {
        took = [];
        rest = [];
        cut = refl;
        count = refl;
        all = λ e. refl;
        machine = refl;
        answers = refl;
        legal = none;
        has_room = omega arith;
      }

  -- where the run is over, or ends, the record is one of the rest
  tracks_rest : (rs : List StepRecord) (g : Played) (n : Acceptance) (r : StepRecord) → Tracks s room rs g → accepted n ≡ false → Tracks s room (rs ++ (r ∷ [])) (refusing g n)
  unfolding refusing
  tracks_rest rs g n r t e =
      record {
        took = t.took;
        rest = t.rest ++ (r ∷ []);
        cut = ap (λ (l : List StepRecord). l ++ (r ∷ [])) t.cut ∙ append_assoc t.took t.rest (r ∷ []);
        count = t.count;
        all = λ z. contradiction (accepted n) z e;
        machine = t.machine;
        answers = t.answers;
        legal = t.legal;
        has_room = t.has_room;
      }

  tracks_taking : (rs : List StepRecord) (g : Played) (r : StepRecord) → Tracks s room rs g → accepted g.refusal ≡ true
      → accepted (record_refusal s (room - answer_size * length g.answers) (process_of g.machine r.process) r) ≡ true → Tracks s room (rs ++ (r ∷ [])) (taking s g r)
  unfolding taking answer_size
  tracks_taking rs g r t e f =
      let whole : rs ≡ t.took = t.cut ∙ ap (λ (l : List StepRecord). t.took ++ l) (t.all e) ∙ append-nil t.took in
      let n = next_after (length t.took) r in
      record {
        took = t.took ++ (r ∷ []);
        rest = [];
        cut = ap (λ (l : List StepRecord). l ++ (r ∷ [])) whole ∙ sym (append-nil (t.took ++ (r ∷ [])));
        count = simp length-append (ap (λ (n : ℕ). n + 1) t.count);
        all = λ z. refl;
        machine =
            (λ i. take_record s (t.machine i) (next_after (t.count i) r)) ∙ sym (ap (machine_after s) (numbered_snoc t.took r) ∙ machine_snoc s (numbered t.took) n);
        answers = cc (ap (answers_along s) (numbered_snoc t.took r), answers_snoc s (numbered t.took) n);
        legal =
            subst (Legal s) (sym (numbered_snoc t.took r))
            (more n t.legal (subst (λ (m : Machine). Accepted s m r) t.machine (accept s (room - answer_size * length g.answers) g.machine r f)));
        has_room = simp length-append (omega (arith, t.has_room, answers_room s (room - 16 * length g.answers) g.machine r f));
      }

  tracks_record : (rs : List StepRecord) (g : Played) (r : StepRecord) → Tracks s room rs g → Tracks s room (rs ++ (r ∷ [])) (play_record s room g r)
  unfolding play_record refusing
  tracks_record rs g r t =
      cases (Tracks s room (rs ++ (r ∷ []))) (not (accepted g.refusal))
      (λ z. tracks_rest rs g g.refusal r t (not-true (accepted g.refusal) z))
      (λ z. cases (Tracks s room (rs ++ (r ∷ []))) (accepted (record_refusal s (room - answer_size * length g.answers) (process_of g.machine r.process) r))
      (λ w. tracks_taking rs g r t (not-false (accepted g.refusal) z) w)
      (λ w. tracks_rest rs g (record_refusal s (room - answer_size * length g.answers) (process_of g.machine r.process) r) r t w))

  tracks_records : (rs ts : List StepRecord) (g : Played) → Tracks s room rs g → Tracks s room (rs ++ ts) (foldl (play_record s room) g ts)
  tracks_records rs [] g t = subst (λ (l : List StepRecord). Tracks s room l g) (sym (append-nil rs)) t
  tracks_records rs (r ∷ ts) g t =
      subst (λ (l : List StepRecord). Tracks s room l (foldl (play_record s room) (play_record s room g r) ts)) (append_snoc rs r ts)
      (tracks_records (rs ++ (r ∷ [])) ts (play_record s room g r) (tracks_record rs g r t))

  tracks : (rs : List StepRecord) → Tracks s room rs (play s room rs)
  unfolding play
  tracks rs = tracks_records [] rs (at_start s) tracks_start

  -- the records that a run took are the first of them
  first : (rs : List StepRecord) → (tracks rs).took ≡ take (play s room rs).taken rs
  first rs =
      let t : Tracks s room rs (play s room rs) = tracks rs in
      sym (ap (λ (n : ℕ). take n rs) t.count ∙ ap (take (length t.took)) t.cut ∙ take-append_seam t.took t.rest)

  pub played_machine : (rs : List StepRecord) → (play s room rs).machine ≡ machine_after s (numbered (take (play s room rs).taken rs))
  played_machine rs = (tracks rs).machine ∙ ap (λ (l : List StepRecord). machine_after s (numbered l)) (first rs)

  pub played_answers : (rs : List StepRecord) → (play s room rs).answers ≡ answers_along s (numbered (take (play s room rs).taken rs))
  played_answers rs = (tracks rs).answers ∙ ap (λ (l : List StepRecord). answers_along s (numbered l)) (first rs)

  pub played_legal : (rs : List StepRecord) → Legal s (numbered (take (play s room rs).taken rs))
  played_legal rs = subst (λ (l : List StepRecord). Legal s (numbered l)) (first rs) (tracks rs).legal

  pub played_length : (rs : List StepRecord) → length (take (play s room rs).taken rs) ≡ (play s room rs).taken
  played_length rs = sym ((tracks rs).count ∙ ap length (first rs))

  pub played_room : (rs : List StepRecord) → answer_size * length (play s room rs).answers ≤ room
  played_room rs = (tracks rs).has_room

  -- a run that refused nothing took all
  pub played_all : (rs : List StepRecord) → accepted (play s room rs).refusal ≡ true → (play s room rs).taken ≡ length rs
  played_all rs e =
      let t : Tracks s room rs (play s room rs) = tracks rs in
      let z : length t.rest ≡ 0 = ap length (t.all e) in
      omega (arith, t.count, simp length-append at (ap length t.cut))

  -- so it leaves what its whole list does, which is legal
  module _ (rs : List StepRecord) (ok : accepted (play s room rs).refusal ≡ true) where
    pub took_all : take (play s room rs).taken rs ≡ rs
    took_all = ap (λ (i : ℕ). take i rs) (played_all rs ok) ∙ take-length rs

    pub whole_machine : (play s room rs).machine ≡ machine_after s (numbered rs)
    whole_machine = played_machine rs ∙ ap (λ (l : List StepRecord). machine_after s (numbered l)) took_all

    pub whole_answers : (play s room rs).answers ≡ answers_along s (numbered rs)
    whole_answers = played_answers rs ∙ ap (λ (l : List StepRecord). answers_along s (numbered l)) took_all

    pub whole_legal : Legal s (numbered rs)
    whole_legal = subst (λ (l : List StepRecord). Legal s (numbered l)) took_all (played_legal rs)

  -- a run that is over stays as it is
  pub over_stays : (g : Played) → accepted g.refusal ≡ false → (rs : List StepRecord) → foldl (play_record s room) g rs ≡ g
  unfolding play_record play_record_by
  over_stays = by_over record_refusal s room

  -- a run that is not over meets a record
  module _ (rs : List StepRecord) (r : StepRecord) (on : accepted (play s room rs).refusal ≡ true) where
    abbrev g : Played
    g = play s room rs

    abbrev met : Acceptance
    met = record_refusal s (room - answer_size * length g.answers) (process_of g.machine r.process) r

    pub play_taken : accepted met ≡ true → play s room (rs ++ (r ∷ [])) ≡ taking s g r
    unfolding play play_by play_record play_record_by
    play_taken = by_taken record_refusal s room rs r g refl on

    pub play_refused : accepted met ≡ false → (ts : List StepRecord) → play s room (rs ++ (r ∷ ts)) ≡ refusing g met
    unfolding play play_by play_record play_record_by
    play_refused = by_refused record_refusal s room rs r g refl on

  pub play_append : (rs ts : List StepRecord) → play s room (rs ++ ts) ≡ foldl (play_record s room) (play s room rs) ts
  unfolding play play_by play_record play_record_by
  play_append = by_append record_refusal s room

-- a begin, taken or refused, changes no memory
pub begin_memory : (s : Shape) (room : ℕ) (g : Played) (r : StepRecord) → is_step r ≡ false → (play_record s room g r).machine.memory ≡ g.machine.memory
unfolding play_record taking refusing take_record begin with_process
begin_memory s room g r z = on (not (accepted g.refusal)) (accepted n)
  where
    n : Acceptance
    n = record_refusal s (room - answer_size * length g.answers) (process_of g.machine r.process) r

    on : (a b : Bool) → (if a then g else (if b then taking s g r else refusing g n)).machine.memory ≡ g.machine.memory
    on true b = refl
    on false true = rw z
    on false false = refl
