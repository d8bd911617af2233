-- The terms collected from the slots, in root order, are the terms of the desk.
use Prim.Native.Nat.{ℕ, ◌*◌, ◌≤◌, ◌<◌}
use native.Mathlib.Omega.{arith}
use native.Mathlib.Nat.{mul-le-mul_right}
use native.Mathlib.Decide.{dec_lt}
use mathlib.Core.Path.{◌≡◌, refl, ap, sym, ◌∙◌}
use mathlib.Core.Bool.{Bool, true, false, true≢false}
use mathlib.Core.List.{List, [], ◌∷◌, ◌++◌, map, flat_map}
use lib.ListN.{length, get_or, set, replicate, length-replicate, get_or-replicate}
use lib.Seq.{get_or-set_same, get_or-set_other}
use borrow.Author.Tests.{eq-eqb}
use Rattle.std.specs.Prelude.{if◌then◌else◌}
use Rattle.base.specs.Members.{All}
use Rattle.record.specs.declared.Reply.{Reply}
use Rattle.record.specs.declared.Reply.TheVariants.{Done, Value, Nothing}
use Rattle.record.specs.declared.AnswerRecord.{AnswerRecord}
use Rattle.record.specs.AnswerRecords.{reply_value}
use Rattle.tree.specs.Shape.{Shape, processes}
use Rattle.tree.specs.Order.{OpId, Placed, root_order, root_operations}
use Rattle.tree.specs.Standing.{same}
use Rattle.tree.proofs.Names.{same_eq}
use Rattle.order.specs.OrderList.{order_record}
use Rattle.calls.specs.History.{operation}
use Rattle.calls.specs.Linearizable.{response}
use Rattle.calls.proofs.RecordsFit.{Named}
use Rattle.desk_rules.specs.Entries.{first_entry, is_entry, term_of}
use Rattle.desk_rules.specs.Desk.{term_in, terms}
use Rattle.desk_terms.specs.Clauses.Slots.{slot_of, HasSlot, entered, term_at, collected}
use Rattle.desk_terms.proofs.Entered.{entered_length}

-- ---- the slots of named operations
module _ (s : Shape) where
  abbrev l : ℕ
  l = s.most

  abbrev slot : OpId → ℕ
  slot x = slot_of l x.process x.serial

  -- those of a process with a lower number come before
  slots_before : (x y : OpId) → Named s x → Named s y → x.process < y.process → slot x < slot y
  unfolding slot_of
  slots_before x y nx ny h = omega (arith, nx.first, nx.last, ny.first, mul-le-mul_right l h)

  slot_process : (x y : OpId) → Named s x → Named s y → slot x ≡ slot y → x.process ≡ y.process
  slot_process x y nx ny e = on (dec_lt x.process y.process) (dec_lt y.process x.process)
    where
      on : Dec (x.process < y.process) → Dec (y.process < x.process) → x.process ≡ y.process
      on (yes a) b = absurd (omega (arith, slots_before x y nx ny a, e))
      on (no a) (yes b) = absurd (omega (arith, slots_before y x ny nx b, e))
      on (no a) (no b) = omega arith

  slot_serial : (x y : OpId) → Named s x → Named s y → slot x ≡ slot y → x.serial ≡ y.serial
  unfolding slot_of
  slot_serial x y nx ny e = omega (arith, nx.first, ny.first, e, ap (λ (k : ℕ). k * l) (slot_process x y nx ny e))

  slot_same : (x y : OpId) → Named s x → Named s y → slot x ≡ slot y → same x y ≡ true
  unfolding same
  slot_same x y nx ny e = rw (eq-eqb x.process y.process (slot_process x y nx ny e), eq-eqb x.serial y.serial (slot_serial x y nx ny e))

  pub slot_within : (n : ℕ) → processes s * s.most ≤ n → (x : OpId) → Named s x → HasSlot s.most n x.process x.serial
  unfolding slot_of
  slot_within n h x named = record { first = named.first; below = omega (arith, h, named.first, named.last, mul-le-mul_right l named.process) }

  -- ---- what they hold
  module _ (n : ℕ) (wide : processes s * s.most ≤ n) where
    abbrev zeros : List ℕ
    zeros = replicate n 0

    abbrev AllNamed : List AnswerRecord → Type 0
    AllNamed log = All (λ (a : AnswerRecord). Named s (operation a.process a.serial)) log

    -- each has the value of its operation's answer, 0 for none
    slot_holds : (log : List AnswerRecord) → AllNamed log → (x : OpId) → Named s x → get_or (entered l log zeros) (slot x) 0 ≡ reply_value (response log x)
    unfolding entered response operation reply_value
    slot_holds [] named x nx = get_or-replicate n (slot x) 0 0 (slot_within n wide x nx).below
    slot_holds (a ∷ log) named x nx = on (same x y) refl (slot_holds log named.1 x nx)
      where
        y : OpId
        y = record { process = a.process; serial = a.serial }

        old : List ℕ
        old = entered l log zeros

        here : slot y < length old
        here = omega (arith, (slot_within n wide y named.0).below, entered_length l log zeros, length-replicate {A = ℕ} n 0)

        on : (b : Bool) → same x y ≡ b → get_or old (slot x) 0 ≡ reply_value (response log x)
            → get_or (set old (slot y) (reply_value a.reply)) (slot x) 0 ≡ reply_value (if b then a.reply else response log x)
        on true e ih = ap (λ (z : OpId). get_or (set old (slot y) (reply_value a.reply)) (slot z) 0) (same_eq x y e) ∙ get_or-set_same old (slot y) (reply_value a.reply) 0 here
        on false e ih =
            get_or-set_other old (slot y) (slot x) (reply_value a.reply) 0 (λ z. true≢false (sym (slot_same x y nx named.0 z) ∙ e))
            ∙ ih

    -- ---- the terms
    term_read : (r : Reply) → (if is_entry (reply_value r) then term_of (reply_value r) ∷ [] else []) ≡ term_in r
    unfolding reply_value term_in is_entry first_entry
    term_read Done = refl
    term_read (Value v) = refl
    term_read Nothing = refl

    module _ (log : List AnswerRecord) (named : AllNamed log) where
      term_at_lem : (x : OpId) → Named s x → term_at (entered l log zeros) (slot x) ≡ term_in (response log x)
      unfolding term_at
      term_at_lem x nx = rw (slot_holds log named x nx) (term_read (response log x))

      collected_at : (xs : List Placed) → All (Named s) (map (λ (x : Placed). x.op) xs)
          → collected l (entered l log zeros) (map order_record xs) ≡ flat_map (λ x. term_in (response log x)) (map (λ (x : Placed). x.op) xs)
      unfolding collected order_record flat_map
      collected_at [] all = refl
      collected_at (x ∷ xs) all = rw (term_at_lem x.op all.0) (ap (λ ts. term_in (response log x.op) ++ ts) (collected_at xs all.1))

      pub collected_terms : (t : List ℕ) → All (Named s) (root_operations s t)
          → collected s.most (entered s.most log (replicate n 0)) (map order_record (root_order s t)) ≡ terms s log t
      unfolding terms root_operations
      collected_terms t all = collected_at (root_order s t) all
