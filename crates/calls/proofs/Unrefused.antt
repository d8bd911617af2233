-- What Run and list the order leave where they refuse nothing.
use Prim.Native.Nat.{ℕ}
use mathlib.Core.Path.{◌≡◌, refl, ap, sym, ◌∙◌}
use mathlib.Core.Bool.{true, false}
use mathlib.Core.List.{List}
use lib.ListN.{length, take, drop}
use lib.Seq.{take_at}
use Rattle.record.specs.StepRecords.{step_records}
use Rattle.tree.specs.Layout.{words_needed}
use Rattle.tree.specs.Order.{root_order}
use Rattle.calls.specs.Refusals.{Acceptance, refusal_number, accepted, call_refusal}
use Rattle.tree.specs.Shape.{shape_for}
use Rattle.calls.specs.Run.{RunResult, Played, play, run_played, run_turned_down, run}
use Rattle.calls.specs.ListOrder.{ListResult, play_all, list_refusal, listed, list_played, list_order}
use Rattle.order.specs.OrderList.{order_list}
use Rattle.calls.specs.Continuation.{order_left, list_written}
use Rattle.calls.proofs.Acceptance.{accepted_zero, passed_test}
use Rattle.calls.proofs.Theorem.{run_down, run_is, table_is}

-- ---- Run on some bytes, without refusal
module _ (p l : ℕ) (records table answers : List ℕ) where
  abbrev n : Acceptance
  n = call_refusal p l (length table) (length records)

  abbrev g : Played
  g = play (shape_for p l) (length answers) (step_records records)

  run_turned_down_lem : accepted n ≡ false → (run p l records table answers).refusal ≡ refusal_number n
  unfolding run_turned_down
  run_turned_down_lem e = ap (λ (r : RunResult). r.refusal) (run_down p l records table answers e)

  module _ (none : (run p l records table answers).refusal ≡ 0) where
    pub run_accepted : accepted n ≡ true
    run_accepted = passed_test n (run p l records table answers).refusal run_turned_down_lem none

    pub run_played_lem : accepted g.refusal ≡ true
    unfolding run_played
    run_played_lem =
        accepted_zero g.refusal (sym (ap (λ (e : RunResult). e.refusal) (run_is p l records table answers run_accepted)) ∙ none)

    pub run_order : order_left p l (run p l records table answers) ≡ root_order (shape_for p l) g.machine.memory.table
    unfolding order_left
    run_order =
        ap (λ (e : RunResult). root_order (shape_for p l) (take (words_needed (shape_for p l)) e.table)) (run_is p l records table answers run_accepted)
        ∙ ap (root_order (shape_for p l)) (table_is p l records table answers run_accepted)

-- ---- list the order on some bytes, without refusal
module _ (p l : ℕ) (records table output : List ℕ) where
  abbrev listing : Acceptance
  listing = call_refusal p l (length table) (length records)

  abbrev all : Played
  all = play_all (shape_for p l) (step_records records)

  abbrev orders : List ℕ
  orders = order_list (shape_for p l) all.machine.memory.table

  list_turned_down : accepted listing ≡ false → (list_order p l records table output).refusal ≡ refusal_number listing
  unfolding list_order listed
  list_turned_down e = rw e

  module _ (none : (list_order p l records table output).refusal ≡ 0) where
    pub list_accepted : accepted listing ≡ true
    list_accepted = passed_test listing (list_order p l records table output).refusal list_turned_down none

    list_is : list_order p l records table output ≡ list_played (shape_for p l) all table output
    unfolding list_order
    list_is = rw list_accepted

    -- the refusal of the records, or 10
    final : refusal_number (list_refusal all.refusal (length orders) (length output)) ≡ 0
    unfolding list_played listed
    final = sym (ap (λ (e : ListResult). e.refusal) list_is) ∙ none

    refused : accepted all.refusal ≡ false → list_refusal all.refusal (length orders) (length output) ≡ all.refusal
    unfolding list_refusal
    refused e = rw e

    pub list_played_lem : accepted all.refusal ≡ true
    list_played_lem = passed_test all.refusal (refusal_number (list_refusal all.refusal (length orders) (length output))) (λ e. ap refusal_number (refused e)) final

    pub list_bytes : list_written (list_order p l records table output) ≡ orders
    unfolding list_written list_played listed
    list_bytes =
        ap (λ (e : ListResult). take e.length e.output) list_is
        ∙ rw (accepted_zero (list_refusal all.refusal (length orders) (length output)) final) (take_at orders (drop (length orders) output) (length orders) refl)
