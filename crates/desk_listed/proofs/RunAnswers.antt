-- What a run of a call that is not turned down leaves, with room for 4,000 answers: each is read from its bytes, and
-- its operation has a slot.
use Prim.Native.Nat.{ℕ, ◌*◌, ◌/◌, ◌^◌, ◌≤◌, ◌<◌}
use native.Mathlib.Omega.{arith}
use mathlib.Core.Path.{◌≡◌, ap, ◌∙◌, subst}
use mathlib.Core.Bool.{true}
use mathlib.Core.List.{List, ◌++◌, map}
use lib.ListN.{length, take, drop, get_or, replicate, length-append}
use Rattle.std.specs.Simd.{first_chunks}
use Rattle.base.specs.Members.{All}
use Rattle.record.specs.declared.AnswerRecord.{AnswerRecord}
use Rattle.record.specs.StepRecords.{step_records}
use Rattle.record.specs.AnswerRecords.{answer_size, log_bytes}
use Rattle.record.specs.ReadAnswers.{answer_record}
use Rattle.record.proofs.Lengths.{log_length}
use Rattle.record.proofs.Cuts.{first_chunked}
use Rattle.tree.specs.Shape.{Shape, shape_for}
use Rattle.tree.specs.Layout.{words_needed}
use Rattle.calls.specs.Refusals.{accepted, call_refusal}
use Rattle.calls.specs.Run.{Played, RunResult, run_played, run}
use Rattle.calls.specs.ListOrder.{play_all}
use Rattle.calls.proofs.RunLimits.{run_room}
use Rattle.calls.proofs.RecordsFit.{first_below}
use Rattle.queue.specs.declared.OtqRun.{OtqRun}
use Rattle.queue.specs.Exported.{run_exported}
use Rattle.desk_terms.specs.Clauses.Slots.{HasSlot, entered}
use Rattle.desk_listed.specs.Clauses.Deliverable.{ReceivedAll}
use Rattle.desk_listed.proofs.Received.{answers_in, all_few, answer_slots, answers_read}

-- such a run
pub record Ran (p l : ℕ) (records table answers : List ℕ) (r : OtqRun) (table' answers' : List ℕ) : Type 0 where
  pub call : accepted (call_refusal p l (length table) (length records)) ≡ true
  pub room : length answers ≡ 64000
  pub left : run_exported r table' answers' ≡ run p l records table answers

module _ {p l : ℕ} {records table answers : List ℕ} {r : OtqRun} {table' answers' : List ℕ} (ran : Ran p l records table answers r table' answers') where
  open ran use {call, room, left}

  abbrev s : Shape
  s = shape_for p l

  abbrev g : Played
  g = play_all s (step_records records)

  is : run p l records table answers ≡ run_played s g table answers
  unfolding answer_size
  is = run_room p l records table answers call (omega (arith, room, all_few p l records (length table) call))

  words_are : table' ≡ g.machine.memory.table ++ drop (words_needed s) table
  unfolding run_exported run_played
  words_are = ap (λ (e : RunResult). e.table) (left ∙ is)

  count_is : r.answers ≡ length g.answers
  unfolding run_exported run_played
  count_is = ap (λ (e : RunResult). e.answered) (left ∙ is)

  bytes_are : answers' ≡ log_bytes g.answers ++ drop (answer_size * length g.answers) answers
  unfolding run_exported run_played
  bytes_are = ap (λ (e : RunResult). e.answers) (left ∙ is)

  pub ran_room : 16 * r.answers ≤ length answers'
  unfolding answer_size
  ran_room =
      omega (
        arith,
        count_is,
        ap length bytes_are,
        length-append (log_bytes g.answers) (drop (16 * length g.answers) answers),
        log_length g.answers,
      )

  module _ (fits : (i : ℕ) → get_or table' i 0 < 2 ^ 32) where
    read : answers_in r.answers answers' ≡ g.answers
    read =
        ap (λ (n : ℕ). answers_in n answers') count_is
        ∙ ap (answers_in (length g.answers)) bytes_are
        ∙ answers_read p l records (length table) call (drop (answer_size * length g.answers) answers)
        (first_below (2 ^ 32) g.machine.memory.table (drop (words_needed s) table) (omega arith) (subst (λ (t : List ℕ). (i : ℕ) → get_or t i 0 < 2 ^ 32) words_are fits))

    -- the records in the arrays that Rust cuts the answer bytes into
    module _ (chunks : List (List ℕ)) (cut_so : chunks ≡ first_chunks 16 (length answers' / 16) answers') where
      chunks_read : map answer_record (take r.answers chunks) ≡ g.answers
      unfolding answer_size
      chunks_read =
          ap (λ (l : List (List ℕ)). map answer_record (take r.answers l)) cut_so
          ∙ first_chunked answer_record 16 r.answers (length answers' / 16) answers' (omega (arith, ran_room))
          ∙ read

      pub ran_slots : (n : ℕ) → n ≡ 4000 → All (λ (a : AnswerRecord). HasSlot l n a.process a.serial) (map answer_record (take r.answers chunks))
      ran_slots n e = rw (e, chunks_read) (answer_slots p l records (length table) call)

      pub ran_received : (before received : List ℕ) → before ≡ replicate 4000 0 → received ≡ entered l (map answer_record (take r.answers chunks)) before
          → ReceivedAll p l records table table' received
      ran_received before received zeros e = record { words = words_are; slots = e ∙ rw (zeros, chunks_read) }
