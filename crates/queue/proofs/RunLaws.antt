-- What Run leaves, by whether the call is turned down.
use Rattle.std.specs.Prelude.{Err}
use Prim.Native.Nat.{ℕ, ◌*◌}
use mathlib.Core.Path.{◌≡◌, sym, ◌∙◌, subst}
use mathlib.Core.Bool.{true}
use mathlib.Core.List.{List}
use lib.ListN.{length, take, drop}
use Rattle.record.specs.AnswerRecords.{answer_size}
use Rattle.record.specs.StepRecords.{step_records}
use Rattle.tree.specs.Shape.{Shape, shape_for}
use Rattle.tree.specs.Layout.{words_needed}
use Rattle.calls.specs.declared.Refusal.{Refusal}
use Rattle.calls.specs.Refusals.{Acceptance, refusal_number, accepted, call_refusal}
use Rattle.calls.specs.Run.{Played, play, run_turned_down, run_played, run}
use Rattle.calls.specs.Demand3.{Demand3, RunKeeps}
use Rattle.calls.proofs.Played.{played_room}
use Rattle.calls.proofs.Theorem.{demand3_run}
use Rattle.superblocks.specs.Supers.{SupersNear, RunSupers}
use Rattle.superblocks.proofs.RunSupers.{supers_run}
use Rattle.block_numbers.specs.BlockNumbers.{NumbersTell, RunNumbers}
use Rattle.block_numbers.proofs.RunNumbers.{numbers_run}
use Rattle.answer_log.proofs.Written.{written_fits}
use Rattle.player.specs.declared.Outcome.{Outcome}
use Rattle.player.specs.Clauses.PlayCalls.{PlayResult}
use Rattle.queue.specs.declared.Ran.{Ran}
use Rattle.queue.specs.Left.{run_left}
use Rattle.queue.proofs.PlayAll.{table_left}

module _ (p l : ℕ) (records table answers : List ℕ) where
  abbrev s : Shape
  s = shape_for p l

  abbrev g : Played
  g = play s (length answers) (step_records records)

  abbrev n : Acceptance
  n = call_refusal p l (length table) (length records)

  -- what the equation then tells of what a call that is not turned down leaves: demand 3, where superblocks stand, and
  -- which record wrote each block
  pub with_claims : (r : Ran) (table' answers' : List ℕ) → run_left r table' answers' ≡ run p l records table answers
      → (run_left r table' answers' ≡ run p l records table answers)
      × ((accepted n ≡ true → Demand3 p l (take r.taken (step_records records)) (take (answer_size * r.answers) answers') (take (words_needed s) table'))
      × ((accepted n ≡ true → SupersNear s (take (words_needed s) table'))
      × (accepted n ≡ true → NumbersTell s (take r.taken (step_records records)) (take (words_needed s) table'))))
  unfolding run_left
  with_claims r table' answers' e = (
    e,
    (
      λ ok. subst (RunKeeps p l records) (sym e) (demand3_run p l records table answers ok),
      (
        λ ok. subst (RunSupers p l) (sym e) (supers_run p l records table answers ok),
        λ ok. subst (RunNumbers p l records) (sym e) (numbers_run p l records table answers ok),
      ),
    ),
  )

  -- turned down
  pub run_down : (m : Refusal) → Err m ≡ n → run_left (record { ended = Err m; taken = 0; answers = 0 }) table answers ≡ run p l records table answers
  unfolding run_left run run_turned_down accepted
  run_down m e = rw (← e)

  -- played
  module _ (ok : accepted n ≡ true) (o : Outcome) (log table' heads' answers' : List ℕ)
      (result : PlayResult g log answers o (take (words_needed s) table') heads' answers')
      (rest : drop (words_needed s) table' ≡ drop (words_needed s) table)
    where
      pub run_left_lem : run_left (record { ended = o.ended; taken = o.taken; answers = o.answers }) table' answers' ≡ run p l records table answers
      unfolding run_left run run_played
      run_left_lem =
          rw ok
          (λ i.
          record {
            refusal = refusal_number (result.ended i);
            taken = result.taken i;
            answered = result.answered i;
            table = table_left g log answers o (words_needed s) table table' heads' answers' result rest i;
            answers = (result.bytes ∙ written_fits answers g.answers (played_room s (length answers) (step_records records))) i;
          })
