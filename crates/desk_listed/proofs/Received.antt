-- The answers of a run with room for p × L of them, read from their bytes, and its root order, read from the list.
use Prim.Native.Nat.{ℕ, ◌*◌, ◌/◌, ◌^◌, ◌≤◌, ◌<◌}
use native.Mathlib.Omega.{arith}
use mathlib.Core.Path.{◌≡◌, ap, sym, ◌∙◌}
use mathlib.Core.Bool.{true}
use mathlib.Core.List.{List, [], ◌∷◌, ◌++◌, map, flat_map, append-nil}
use lib.ListN.{length, get_or, replicate, length-map}
use Rattle.base.specs.Members.{All}
use Rattle.base.proofs.Members.{all_map}
use Rattle.base.proofs.Gather.{flat_map-map}
use Rattle.record.specs.declared.AnswerRecord.{AnswerRecord}
use Rattle.record.specs.declared.OrderRecord.{OrderRecord}
use Rattle.encoding.specs.Bytes.{cut}
use Rattle.record.specs.StepRecords.{step_records}
use Rattle.record.specs.AnswerRecords.{answer_size, bytes_of_answer, log_bytes}
use Rattle.record.specs.ReadAnswers.{answer_record}
use Rattle.record.specs.OrderRecords.{order_bytes}
use Rattle.record.specs.ReadOrders.{read_order}
use Rattle.record.proofs.Lengths.{answer_length, order_record_length}
use Rattle.encoding.proofs.ReadBack.{list_back}
use Rattle.record.proofs.ReadBack.{record_back, OrderFits, order_back}
use Rattle.tree.specs.Shape.{Shape, processes, shape_for}
use Rattle.tree.specs.Order.{Placed, root_order, root_operations}
use Rattle.order.specs.OrderList.{order_record, order_list}
use Rattle.order.proofs.RootRecords.{eight_each}
use Rattle.steps.proofs.Limits.{allowed_most, allowed_width, short_for}
use Rattle.calls.specs.Refusals.{accepted, call_refusal}
use Rattle.calls.specs.Run.{Played}
use Rattle.calls.specs.ListOrder.{play_all}
use Rattle.calls.specs.History.{operation}
use Rattle.calls.proofs.CallAccepted.{settings_few, accepted_settings, accepted_processes, accepted_operations}
use Rattle.calls.proofs.Theorem.{tall_for}
use Rattle.calls.proofs.RecordsFit.{Named}
use Rattle.calls.proofs.PlayedRecords.{played_named, played_answers_named, played_answers_fit, played_orders_fit}
use Rattle.desk_rules.specs.Desk.{terms}
use Rattle.desk_terms.specs.Clauses.Slots.{HasSlot, entered, collected}
use Rattle.desk_listed.proofs.Slots.{slot_within, collected_terms}

-- the first n records of some bytes
abbrev pub answers_in : ℕ → List ℕ → List AnswerRecord
answers_in n bytes = map answer_record (cut answer_size n bytes)

abbrev pub orders_in : ℕ → List ℕ → List OrderRecord
orders_in n bytes = map read_order (cut 8 n bytes)

module _ (p l : ℕ) (records : List ℕ) (words : ℕ) (call : accepted (call_refusal p l words (length records)) ≡ true) where
  abbrev s : Shape
  s = shape_for p l

  abbrev g : Played
  g = play_all s (step_records records)

  abbrev t : List ℕ
  t = g.machine.memory.table

  few : l ≤ 500
  few = (allowed_most l (accepted_operations p l words (length records) call)).1

  pub all_few : p * l ≤ 4000
  all_few = settings_few p l (accepted_settings p l words (length records) call)

  wide : processes s * s.most ≤ 4000
  unfolding shape_for
  wide = rw (allowed_width p l (accepted_processes p l words (length records) call)) all_few

  abbrev room : ℕ
  room = answer_size * length (step_records records)

  -- ---- the answers
  pub answer_slots : All (λ (a : AnswerRecord). HasSlot l 4000 a.process a.serial) (play_all (shape_for p l) (step_records records)).answers
  unfolding shape_for operation play_all
  answer_slots = all_map g.answers (λ a n. slot_within s 4000 wide (operation a.process a.serial) n) (played_answers_named s (tall_for p l) room (step_records records))

  pub answers_read : (rest : List ℕ) → ((i : ℕ) → get_or (play_all (shape_for p l) (step_records records)).machine.memory.table i 0 < 2 ^ 32)
      → answers_in (length (play_all (shape_for p l) (step_records records)).answers) (log_bytes (play_all (shape_for p l) (step_records records)).answers ++ rest)
      ≡ (play_all (shape_for p l) (step_records records)).answers
  unfolding log_bytes shape_for play_all
  answers_read rest fits =
      list_back answer_size bytes_of_answer answer_record answer_length g.answers rest
      (all_map g.answers (λ a f. record_back a f) (played_answers_fit s (tall_for p l) room (step_records records) (short_for p l) few fits))

  -- ---- the root order
  abbrev orders : List OrderRecord
  orders = map order_record (root_order s t)

  list_records : order_list s t ≡ flat_map order_bytes orders
  unfolding order_list
  list_records = sym (flat_map-map order_bytes order_record (root_order s t))

  orders_length : length orders ≡ length (order_list s t) / 8
  unfolding order_list
  orders_length = omega (arith, length-map (root_order s t) order_record, eight_each (root_order s t))

  pub orders_read : (order : List ℕ) → order ≡ order_list (shape_for p l) (play_all (shape_for p l) (step_records records)).machine.memory.table
      → orders_in (length order / 8) order ≡ map order_record (root_order (shape_for p l) (play_all (shape_for p l) (step_records records)).machine.memory.table)
  unfolding shape_for play_all
  orders_read order e =
      ap (λ (bytes : List ℕ). map read_order (cut 8 (length bytes / 8) bytes)) e
      ∙ ap (λ (n : ℕ). map read_order (cut 8 n (order_list s t))) (sym orders_length)
      ∙ ap (λ (bytes : List ℕ). map read_order (cut 8 (length orders) bytes)) (list_records ∙ sym (append-nil (flat_map order_bytes orders)))
      ∙ list_back 8 order_bytes read_order order_record_length orders [] (back (root_order s t) (played_orders_fit s (tall_for p l) room (step_records records) (short_for p l) few))
    where
      back : (xs : List Placed) → All (λ x. OrderFits (order_record x)) xs → All (λ x. read_order (order_bytes x) ≡ x) (map order_record xs)
      back [] f = tt
      back (x ∷ xs) f = (order_back (order_record x) f.0, back xs f.1)

  slots_of : (xs : List Placed) → All (Named s) (map (λ (x : Placed). x.op) xs) → All (λ (x : OrderRecord). HasSlot l 4000 x.process x.serial) (map order_record xs)
  unfolding order_record shape_for
  slots_of [] all = tt
  slots_of (x ∷ xs) all = (slot_within s 4000 wide x.op all.0, slots_of xs all.1)

  pub order_slots : All (λ (x : OrderRecord). HasSlot l 4000 x.process x.serial)
      (map order_record (root_order (shape_for p l) (play_all (shape_for p l) (step_records records)).machine.memory.table))
  unfolding root_operations play_all
  order_slots = slots_of (root_order s t) (played_named s (tall_for p l) room (step_records records))

  -- ---- the terms
  pub all_collected : collected l (entered l (play_all (shape_for p l) (step_records records)).answers (replicate 4000 0))
      (map order_record (root_order (shape_for p l) (play_all (shape_for p l) (step_records records)).machine.memory.table))
      ≡ terms (shape_for p l) (play_all (shape_for p l) (step_records records)).answers (play_all (shape_for p l) (step_records records)).machine.memory.table
  unfolding shape_for play_all
  all_collected = collected_terms s 4000 wide g.answers (played_answers_named s (tall_for p l) room (step_records records)) t (played_named s (tall_for p l) room (step_records records))
