-- List the order writes at most 8 × p × L bytes: with an output of so many it is refused only where its records are.
use Prim.Native.Nat.{ℕ, ◌*◌, ◌≤◌}
use native.Mathlib.Nat.{mul_comm}
use native.Mathlib.Omega.{arith}
use mathlib.Core.Path.{◌≡◌, refl, ap, sym}
use mathlib.Core.Bool.{Bool, true, false}
use mathlib.Core.List.{List, [], ◌++◌}
use lib.ListN.{length, drop}
use borrow.Author.Tests.{le-ltb}
use Rattle.record.specs.StepRecords.{step_records}
use Rattle.record.specs.AnswerRecords.{answer_size}
use Rattle.tree.specs.Shape.{Shape, processes, shape_for}
use Rattle.tree.specs.Layout.{words_needed}
use Rattle.order.specs.OrderList.{order_list}
use Rattle.steps.proofs.Limits.{allowed_width}
use Rattle.calls.specs.Refusals.{Acceptance, refusal_number, accepted, call_refusal}
use Rattle.calls.specs.Run.{Played}
use Rattle.calls.specs.ListOrder.{play_all, list_refusal, listed, list_played, list_order}
use Rattle.calls.proofs.Acceptance.{zero_accepted}
use Rattle.calls.proofs.CallAccepted.{accepted_processes}
use Rattle.calls.proofs.Theorem.{tall_for}
use Rattle.calls.proofs.PlayedRecords.{played_few}

-- where the output is long enough, what is listed is told by the refusal of the records
listed_as : (n : Acceptance) (list table output : List ℕ) → length list ≤ length output → listed (list_refusal n (length list) (length output)) list table output ≡ listed n list table output
unfolding list_refusal listed refusal_number accepted
listed_as n list table output h = on (accepted n) refl
  where
    on : (b : Bool) → accepted n ≡ b → listed (list_refusal n (length list) (length output)) list table output ≡ listed n list table output
    on true e =
        rw (e, le-ltb (length output) (length list) h)
        (ap (λ (k : ℕ). record { refusal = k; length = length list; table = table; output = list ++ drop (length list) output }) (sym (zero_accepted n e)))
    on false e = rw (e, e)

-- of a call that is turned down
pub list_down : (p l : ℕ) (records table output : List ℕ) → accepted (call_refusal p l (length table) (length records)) ≡ false
    → list_order p l records table output ≡ listed (call_refusal p l (length table) (length records)) [] table output
unfolding list_order
list_down p l records table output e = rw e

pub list_fits : (p l : ℕ) (records : List ℕ) (words : ℕ) → accepted (call_refusal p l words (length records)) ≡ true
    → length (order_list (shape_for p l) (play_all (shape_for p l) (step_records records)).machine.memory.table) ≤ 8 * (p * l)
unfolding shape_for play_all
list_fits p l records words ok =
    omega (
      arith,
      played_few (shape_for p l) (tall_for p l) (answer_size * length (step_records records)) (step_records records),
      mul_comm l (processes (shape_for p l)),
      ap (λ (k : ℕ). k * l) (allowed_width p l (accepted_processes p l words (length records) ok)),
    )

module _ (p l : ℕ) (records table output : List ℕ) (ok : accepted (call_refusal p l (length table) (length records)) ≡ true) (long : 8 * (p * l) ≤ length output) where
  abbrev s : Shape
  s = shape_for p l

  abbrev g : Played
  g = play_all s (step_records records)

  abbrev list : List ℕ
  list = order_list s g.machine.memory.table

  pub list_is : list_order p l records table output ≡ listed g.refusal list (g.machine.memory.table ++ drop (words_needed s) table) output
  unfolding list_order list_played
  list_is = rw ok (listed_as g.refusal list (g.machine.memory.table ++ drop (words_needed s) table) output (omega (arith, list_fits p l records (length table) ok, long)))
