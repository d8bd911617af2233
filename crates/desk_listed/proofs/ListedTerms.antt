-- The terms of a list of which nothing is refused, collected in the order of its list, and what is sent of them.
use Prim.Native.Nat.{ℕ, ◌*◌, ◌/◌, ◌≤◌, ◌<◌}
use native.Mathlib.Omega.{arith}
use mathlib.Core.Path.{◌≡◌, ap, sym, ◌∙◌}
use mathlib.Core.List.{List, ◌++◌, map}
use lib.ListN.{length, take, drop, replicate, length-replicate}
use lib.Seq.{length-take-le}
use borrow.Author.Tests.{lt-ltb, le-ltb}
use Rattle.std.specs.Simd.{first_chunks}
use Rattle.base.specs.Members.{All}
use Rattle.encoding.proofs.Cuts.{chunks_cut}
use Rattle.record.specs.declared.OrderRecord.{OrderRecord}
use Rattle.record.specs.StepRecords.{step_records}
use Rattle.record.specs.ReadOrders.{read_order}
use Rattle.tree.specs.Shape.{Shape, shape_for}
use Rattle.tree.specs.Layout.{words_needed}
use Rattle.tree.specs.Order.{root_order}
use Rattle.order.specs.OrderList.{order_record}
use Rattle.steps.proofs.Limits.{allowed_most}
use Rattle.calls.specs.Run.{Played}
use Rattle.calls.specs.ListOrder.{play_all}
use Rattle.calls.proofs.CallAccepted.{accepted_operations}
use Rattle.calls.proofs.ListLimits.{list_fits}
use Rattle.std.specs.Prelude.{Ok, Err}
use Rattle.desk_rules.specs.declared.DeskRefusal.TheVariants.{OutputShort}
use Rattle.desk_rules.specs.Entries.{term_size, term_bytes}
use Rattle.desk_rules.specs.DeskRefusals.{desk_number, delivers, first_desk_refusal}
use Rattle.desk_rules.specs.Desk.{served, terms, sent, output_refusal, desk_served}
use Rattle.desk_rules.proofs.Serving.{queue_delivers}
use Rattle.desk_terms.specs.Clauses.Slots.{HasSlot, entered, collected}
use Rattle.desk_terms.proofs.Entered.{entered_length}
use Rattle.desk_listed.specs.Left.{desk_left}
use Rattle.desk_listed.specs.Clauses.Deliverable.{ReceivedAll, Listed}
use Rattle.desk_listed.proofs.Received.{all_few, orders_read, order_slots, all_collected}

module _ {p l : ℕ} {records : List ℕ} {words : ℕ} {order : List ℕ} (k : Listed p l records words order) where
  abbrev s : Shape
  s = shape_for p l

  abbrev g : Played
  g = play_all s (step_records records)

  abbrev t : List ℕ
  t = g.machine.memory.table

  abbrev ts : List ℕ
  ts = terms s g.answers t

  -- ---- collecting
  pub listed_few : l ≤ 500
  listed_few = (allowed_most l (accepted_operations p l words (length records) k.call)).1

  pub listed_room : length order / 8 ≤ 4000
  listed_room = omega (arith, ap length k.list, list_fits p l records words k.call, all_few p l records words k.call)

  -- the arrays that Rust cuts its bytes into, each read
  module _ (chunks : List (List ℕ)) (cut_so : chunks ≡ first_chunks 8 (length order / 8) order) where
    read : map read_order chunks ≡ map order_record (root_order s t)
    read = ap (map read_order) (cut_so ∙ chunks_cut 8 (length order / 8) order) ∙ orders_read p l records words k.call order k.list

    pub listed_slots : (n : ℕ) → n ≡ 4000 → All (λ (x : OrderRecord). HasSlot l n x.process x.serial) (map read_order chunks)
    listed_slots n e = rw (e, read) (order_slots p l records words k.call)

  pub received_length : {table table' received : List ℕ} → ReceivedAll p l records table table' received → length received ≡ 4000
  received_length all = ap length all.slots ∙ entered_length l g.answers (replicate 4000 0) ∙ length-replicate {A = ℕ} 4000 0

  module _ {table table' received : List ℕ} (all : ReceivedAll p l records table table' received) (count : ℕ) (words' : List ℕ)
      (within : count ≤ length words') (chunks : List (List ℕ)) (cut_so : chunks ≡ first_chunks 8 (length order / 8) order)
      (got : take count words' ≡ collected l received (map read_order chunks))
    where
      are : take count words' ≡ ts
      are =
          got
          ∙ ap (λ (w : List ℕ). collected l w (map read_order chunks)) all.slots
          ∙ ap (collected l (entered l g.answers (replicate 4000 0))) (read chunks cut_so)
          ∙ all_collected p l records words k.call

      many : length ts ≡ count
      many = ap length (sym are) ∙ length-take-le count words' within

      served_is : (output : List ℕ) → desk_served s (served g) table output ≡ sent (output_refusal ts (length output)) ts (t ++ drop (words_needed s) table) output
      unfolding desk_served served first_desk_refusal
      served_is output = rw (queue_delivers g.refusal, k.taken)

      pub listed_short : (output : List ℕ) → length output < 4 * count
          → desk_left (Err OutputShort) table' output ≡ desk_served (shape_for p l) (served (play_all (shape_for p l) (step_records records))) table output
      unfolding desk_left sent output_refusal delivers desk_number term_size
      listed_short output h =
          rw (all.words, served_is output, lt-ltb (length output) (4 * length ts) (omega (arith, many)))

      pub listed_sent : (output output' : List ℕ) → 4 * count ≤ length output
          → output' ≡ term_bytes (take count words') ++ drop (term_size * length (take count words')) output
          → desk_left (Ok count) table' output' ≡ desk_served (shape_for p l) (served (play_all (shape_for p l) (step_records records))) table output
      unfolding desk_left sent output_refusal delivers desk_number term_size
      listed_sent output output' h e =
          rw (all.words, served_is output, le-ltb (length output) (4 * length ts) (omega (arith, many)), e, are, many)
