-- The answer given at Q is the plain queue's, and a step keeps all answers so.
use Rattle.std.specs.Prelude.{if◌then◌else◌}
use Prim.Native.Nat.{ℕ, ◌+◌, ◌≤◌}
use native.Mathlib.Omega.{arith}
use native.Mathlib.Nat.{le_refl}
use mathlib.Core.Path.{◌≡◌, refl, ap, sym, ◌∙◌}
use mathlib.Core.Bool.{Bool, true, false, ◌||◌}
use mathlib.Core.List.{List, [], ◌∷◌, ◌++◌, map, map-append}
use Rattle.base.proofs.Cases.{contradiction}
use Rattle.record.specs.declared.AnswerRecord.{AnswerRecord}
use Rattle.tree.specs.Shape.{Shape}
use Rattle.tree.specs.Memory.{Memory}
use Rattle.tree.specs.Order.{OpId, root_operations}
use Rattle.tree.specs.Standing.{same, times, root_block_of}
use Rattle.tree.proofs.Names.{same_refl, same_eq}
use Rattle.tree.proofs.Once.{Found, stands_once}
use Rattle.steps.specs.declared.Operation.{Operation}
use Rattle.steps.specs.declared.Step.{Step}
use Rattle.steps.specs.Rules.{step}
use Rattle.steps.specs.Machine.{Machine, process_of, is_q, step_of}
use Rattle.steps.proofs.Inside.{is_q_lem, q_memory, q_helps_none}
use Rattle.steps.proofs.Keeps.{stepped_memory}
use Rattle.calls.specs.Answer.{reply_of, answer_of}
use Rattle.calls.specs.History.{Event, is_finished}
use Rattle.calls.specs.Demand3.{queue_answer, queue_record, finishing}
use Rattle.calls.proofs.OwnCounts.{OwnCounts, counts_of}
use Rattle.calls.proofs.Agrees.{Agrees}
use Rattle.calls.proofs.RecordsStay.{records_kept}
use Rattle.calls.proofs.RootAnswers.{reply_is}
use Rattle.calls.proofs.StepEvents.{step_event, finished_more, finishing_more}
use Rattle.calls.proofs.AfterStep.{StepTaken, inv', later, mine, not_mine, is_mine, does_same, leaves', finished', step_agrees}

module _ {s : Shape} {number : ℕ} {m : Machine} {c : ℕ → ℕ} {h : List Event} {log : List AnswerRecord} {k : ℕ} {o : Operation} {n : Step} (taken : StepTaken s number m c h log k o n) where
  open taken use {agrees as ag, tall, low as kp, busy}

  abbrev mem' : Memory
  mem' = (step_of s number m k).memory

  abbrev y : OpId
  y = record { process = k; serial = c k }

  abbrev helped : Bool
  helped = (step s number k o m.memory n).helped

  abbrev h' : List Event
  h' = h ++ (step_event (is_q n) y helped ∷ [])

  -- a finished operation takes no more steps, and no helps
  counts_kept : (x : OpId) → is_finished x h ≡ true → counts_of x h' ≡ counts_of x h
  counts_kept x e = on (same x y) refl
    where
      on : (b : Bool) → same x y ≡ b → counts_of x h' ≡ counts_of x h
      on true z = contradiction (is_finished y h) (ap (λ (w : OpId). is_finished w h) (sym (same_eq x y z)) ∙ e) (mine taken).unfinished
      on false z = not_mine taken x z

  module _ (q : is_q n ≡ true) where
    -- Q changes no memory
    same_memory : mem' ≡ m.memory
    same_memory =
        stepped_memory s tall number m ag.invariant k kp o n busy ∙ ap (λ (x : Step). (step s number k o m.memory x).memory) (is_q_lem n q) ∙ q_memory s number k o m.memory

    stands : 1 ≤ times y (root_operations s mem'.table)
    stands =
        let f : Found s mem' y = finished' taken y (finished_more (is_q n) y helped h y ∙ rw (q, same_refl y) (or_one (is_finished y h))) in
        omega (arith, stands_once s mem' (inv' taken).sound y tall f.process f.first f.last)
      where
        or_one : (b : Bool) → b || true ≡ true
        or_one true = refl
        or_one false = refl

    serial_is : (process_of m k).begun ≡ c k
    serial_is = ag.counts k kp

    reply_given : reply_of s m.memory.table (record { process = k; serial = (process_of m k).begun }) o ≡ queue_answer h' y [] (root_operations s mem'.table)
    reply_given =
        ap (λ (i : ℕ). reply_of s m.memory.table (record { process = k; serial = i }) o) serial_is
        ∙ ap (λ (x : Memory). reply_of s x.table y o) (sym same_memory)
        ∙ ap (reply_of s mem'.table y) (sym (does_same taken y (mine taken).some (le_refl _) ∙ (mine taken).what))
        ∙ sym (reply_is s mem' (inv' taken).sound h' (leaves' taken) tall y stands)

    -- Q is no help
    quiet : (process_of m k).helps ≡ (if helped then (process_of m k).helps + 1 else (process_of m k).helps)
    quiet = rw (q_helps_none s number k o m.memory n q)

    answer_is : answer_of s m k o ≡ queue_record s mem'.table h' y
    unfolding answer_of queue_record
    answer_is =
        λ i.
        record {
          process = k;
          reply = reply_given i;
          steps = (is_mine taken i).steps;
          helps = (quiet ∙ ap (λ (z : OwnCounts). z.helps) (is_mine taken)) i;
          serial = serial_is i;
          block = (ap (λ (j : ℕ). root_block_of s m.memory.table (record { process = k; serial = j })) serial_is ∙ ap (λ (x : Memory). root_block_of s x.table y) (sym same_memory)) i;
        }

  given : (b : Bool) → is_q n ≡ b → (if b then answer_of s m k o ∷ [] else []) ≡ map (queue_record s mem'.table h') (if b then y ∷ [] else [])
  given true q = ap (λ (a : AnswerRecord). a ∷ []) (answer_is q)
  given false q = refl

  pub step_answers : Agrees s (step_of s number m k) c h' (log ++ (if is_q n then answer_of s m k o ∷ [] else []))
  step_answers =
      step_agrees taken (log ++ (if is_q n then answer_of s m k o ∷ [] else []))
      (ap (λ (l : List AnswerRecord). l ++ (if is_q n then answer_of s m k o ∷ [] else []))
      (ag.answers ∙ sym (records_kept ag tall mem' (inv' taken).sound (later taken) (step_event (is_q n) y helped ∷ []) counts_kept))
      ∙ ap (λ (l : List AnswerRecord). map (queue_record s mem'.table h') (finishing h) ++ l) (given (is_q n) refl)
      ∙ sym (map-append (queue_record s mem'.table h') (finishing h) (if is_q n then y ∷ [] else []))
      ∙ ap (map (queue_record s mem'.table h')) (sym (finishing_more (is_q n) y helped h)))
