-- A run of some records and one more, by what that one does.
use Rattle.std.specs.Prelude.{Ok, Err}
use Prim.Native.Nat.{ℕ, ◌+◌, ◌*◌, ◌-◌, ◌≤◌}
use mathlib.Core.Path.{◌≡◌, ap, sym, ◌∙◌, subst}
use mathlib.Core.Bool.{true, false}
use mathlib.Core.List.{List, [], ◌∷◌, ◌++◌, append-nil}
use lib.ListN.{length, take, drop, take-append-drop}
use Rattle.record.specs.declared.StepRecord.{StepRecord}
use Rattle.record.specs.declared.AnswerRecord.{AnswerRecord}
use Rattle.record.specs.AnswerRecords.{answer_size}
use Rattle.tree.specs.Shape.{Shape}
use Rattle.tree.specs.Memory.{Memory}
use Rattle.steps.specs.declared.Operation.{Operation}
use Rattle.steps.specs.declared.Process.{Process}
use Rattle.steps.specs.Machine.{Machine, process_of, with_process}
use Rattle.steps.specs.Clauses.Operations.{rested}
use Rattle.calls.specs.Answer.{answer_of}
use Rattle.calls.specs.declared.Refusal.{Refusal}
use Rattle.calls.specs.Refusals.{accepted, record_refusal}
use Rattle.calls.specs.Run.{Played, take_record, record_answers, taking, refusing, play}
use Rattle.calls.specs.Numbered.{Numbered, next_after, numbered}
use Rattle.calls.specs.History.{begun_by, history}
use Rattle.calls.proofs.Agrees.{Agrees}
use Rattle.calls.proofs.Legal.{answers_along}
use Rattle.calls.proofs.Played.{played_machine, played_legal, over_stays, play_append, play_taken, play_refused}
use Rattle.calls.proofs.Runs.{runs}
use Rattle.player.proofs.RecordResults.{Refused, Moved, Finished, ResultOf}

-- what the records that a run took did agrees with the machine that it left
abbrev pub PlayedAs : Shape → List Numbered → Machine → Type 0
PlayedAs s took m = Agrees s m (λ k. begun_by k (history s took)) (history s took) (answers_along s took)

pub played_agrees : (s : Shape) → 1 ≤ s.height → (room : ℕ) (rs : List StepRecord) → PlayedAs s (numbered (take (play s room rs).taken rs)) (play s room rs).machine
played_agrees s tall room rs =
    subst (PlayedAs s (numbered (take (play s room rs).taken rs))) (sym (played_machine s room rs)) (runs s tall (played_legal s room rs))

module _ (s : Shape) (room : ℕ) (rs : List StepRecord) (going : (play s room rs).refusal ≡ Ok tt) (r : StepRecord) where
  abbrev g : Played
  g = play s room rs

  -- the answer bytes left
  abbrev pub room_left : ℕ
  room_left = room - 16 * length g.answers

  on : accepted g.refusal ≡ true
  unfolding accepted
  on = ap accepted going

  pub result_refused : (n : Memory) (x : Refusal) → ResultOf s room_left g.taken g.machine r n (Refused x) → play s room (rs ++ (r ∷ [])) ≡ refusing g (Err x)
  unfolding answer_size accepted
  result_refused n x t = play_refused s room rs r on (ap accepted t.0) [] ∙ ap (refusing g) t.0

  -- a record that is accepted: the machine and the answers are those that it leaves
  taken_as : accepted (record_refusal s room_left (process_of g.machine r.process) r) ≡ true → (m : Machine) → take_record s g.machine (next_after g.taken r) ≡ m
      → (xs : List AnswerRecord) → record_answers s g.machine r ≡ xs
      → play s room (rs ++ (r ∷ [])) ≡ record { machine = m; answers = g.answers ++ xs; taken = g.taken + 1; refusal = Ok tt }
  unfolding answer_size taking
  taken_as ok m em xs ea = play_taken s room rs r on ok ∙ rw (em, ea)

  pub result_moved : (n : Memory) (q : Process) → ResultOf s room_left g.taken g.machine r n (Moved q)
      → play s room (rs ++ (r ∷ [])) ≡ record { machine = with_process g.machine r.process q n; answers = g.answers; taken = g.taken + 1; refusal = Ok tt }
  result_moved n q t =
      taken_as t.0 _ t.2 [] t.1
      ∙ ap (λ (x : List AnswerRecord). record { machine = with_process g.machine r.process q n; answers = x; taken = g.taken + 1; refusal = Ok tt }) (append-nil g.answers)

  pub result_finished : (n : Memory) (o : Operation) → ResultOf s room_left g.taken g.machine r n (Finished o)
      → play s room (rs ++ (r ∷ []))
      ≡ record {
        machine = with_process g.machine r.process (rested (process_of g.machine r.process)) n;
        answers = g.answers ++ (answer_of s g.machine r.process o ∷ []);
        taken = g.taken + 1;
        refusal = Ok tt;
      }
  result_finished n o t = taken_as t.0 _ t.2 _ t.1

-- records of which one was refused: those after it change nothing
pub play_over : (s : Shape) (room : ℕ) (rs : List StepRecord) (i : ℕ) → accepted (play s room (take i rs)).refusal ≡ false → play s room rs ≡ play s room (take i rs)
play_over s room rs i e =
    ap (play s room) (sym (take-append-drop i rs)) ∙ play_append s room (take i rs) (drop i rs) ∙ over_stays s room (play s room (take i rs)) e (drop i rs)
