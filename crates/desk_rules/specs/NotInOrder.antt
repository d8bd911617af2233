-- That the desk's order clause says no less than it should: the clause sentence by sentence, and terms of two entries
-- that it refuses. Each weaker one that a mistakes/weak_desk_*.edit puts in its place lets some terms pass or lacks a
-- sentence.
use Prim.Native.Nat.{ℕ, zero, suc, ◌+◌, ◌-◌, ◌≤◌, ◌<◌}
use Rattle.std.proofs.Common.{arith, ◌∙◌}
use Rattle.std.specs.Prelude.{◌≡◌, true, take, drop, replicate}
use Rattle.std.proofs.Math.Path.{refl, ap, sym}
use Rattle.std.proofs.lemmas.Bool.{false≢true}
use mathlib.Core.List.{List, [], ◌∷◌, ◌++◌, map}
use Rattle.std.proofs.Math.ListN.{length, get_or, length-map}
use Rattle.base.specs.Members.{All}
use Rattle.record.specs.declared.Reply.TheVariants.{Done, Value, Nothing}
use Rattle.record.specs.declared.StepRecord.{StepRecord}
use Rattle.encoding.specs.Bytes.{number_of, cut}
use Rattle.record.specs.AnswerRecords.{reply_kind, reply_value}
use Rattle.record.specs.StepRecords.{step_records}
use Rattle.tree.specs.Shape.{shape_for}
use Rattle.tree.specs.Layout.{words_needed}
use Rattle.tree.specs.Order.{OpId, root_operations}
use Rattle.steps.specs.declared.Operation.{Operation}
use Rattle.steps.specs.declared.Operation.TheVariants.{Put, Take}
use Rattle.calls.specs.Numbered.{numbered}
use Rattle.calls.specs.Run.{run}
use Rattle.calls.specs.History.{Event, opens, finishes, operation, history, is_finished, does}
use Rattle.calls.specs.Lists.{begin_put, begin_take, steps}
use Rattle.desk_rules.specs.Deliveries.{Rising, values_put, with_numbers, replies, Delivery, operations_of, Received, InPutOrder, DeliversInOrder}
use Rattle.desk_rules.specs.All.{desk_rules}

-- ---- what the clause says, of every history, root order and terms: no less

all_at : {A : Type 0} (P : A → Type 0) (none : A) (xs : List A) (i : ℕ) → i < length xs → All P xs → P (get_or xs i none)
all_at P none [] i l ps = absurd (omega arith)
all_at P none (x ∷ xs) zero l ps = ps.0
all_at P none (x ∷ xs) (suc i) l ps = all_at P none xs i (omega (arith, l)) ps.1

map_at : {A : Type 0} (f : A → ℕ) (none : A) (xs : List A) (i : ℕ) → i < length xs → get_or (map f xs) i 0 ≡ f (get_or xs i none)
map_at f none [] i l = absurd (omega arith)
map_at f none (x ∷ xs) zero l = refl
map_at f none (x ∷ xs) (suc i) l = map_at f none xs i (omega (arith, l))

-- of any two numbers that rise, the later is above the earlier
pub rising_at : (ns : List ℕ) → Rising ns → (i j : ℕ) → i < j → j < length ns → get_or ns i 0 < get_or ns j 0
unfolding Rising
rising_at [] r i j l m = absurd (omega arith)
rising_at (n ∷ ns) r i zero l m = absurd (omega (arith, l))
rising_at (n ∷ ns) r zero (suc j) l m = all_at (λ i. n < i) 0 ns j (omega (arith, m)) r.0
rising_at (n ∷ ns) r (suc i) (suc j) l m = rising_at ns r.1 i j (omega (arith, l)) (omega (arith, m))

-- what stands past the last delivery, and past the last operation
abbrev pub none : Delivery
none = record { position = 0; put = 0 }

abbrev pub nobody : OpId
nobody = record { process = 0; serial = 0 }

module _ (h : List Event) (order : List OpId) (terms : List ℕ) (claim : InPutOrder h order terms) where
  abbrev ds : List Delivery
  ds = claim.deliveries

  -- delivery i, from 0
  abbrev pub delivery : ℕ → Delivery
  delivery i = get_or ds i none

  -- there is one for each term
  pub says_each : length claim.deliveries ≡ length terms
  says_each = sym (length-map ds _) ∙ ap length claim.values ∙ length-map terms _

  module _ (i : ℕ) (l : i < length terms) where
    got : Received h order (delivery i)
    got = all_at (Received h order) none ds i (omega (arith, l, says_each)) claim.received

    -- its take finished
    pub says_finished : is_finished (get_or order (delivery i).position nobody) h ≡ true
    says_finished = got.finished

    -- and got its put
    pub says_given : get_or (replies [] (with_numbers 0 (operations_of h order))) (delivery i).position Nothing ≡ Value (delivery i).put
    says_given = got.given

    -- whose value is the term and 2^31
    pub says_value : get_or (values_put (operations_of h order)) ((delivery i).put - 1) 0 ≡ get_or terms i 0 + 2147483648
    unfolding desk_rules
    says_value = sym (map_at _ none ds i (omega (arith, l, says_each))) ∙ ap (λ ns. get_or ns i 0) claim.values ∙ map_at _ 0 terms i l

  -- of two terms, the take and the put of the first come first
  module _ (i j : ℕ) (l : i < j) (m : j < length terms) where
    rise : (f : Delivery → ℕ) → Rising (map f claim.deliveries) → f (delivery i) < f (delivery j)
    rise f r =
        omega (arith, rising_at (map f ds) r i j l (omega (arith, m, says_each, length-map ds f)), map_at f none ds i (omega (arith, l, m, says_each)), map_at f none ds j (omega (arith, m, says_each)))

    pub says_takes : (delivery i).position < (delivery j).position
    says_takes = rise (λ d. d.position) claim.takes_rise

    pub says_puts : (delivery i).put < (delivery j).put
    says_puts = rise (λ d. d.put) claim.puts_rise

-- what it says of a call: of the history and the root order of its list, and of every term sent
module _ (p l : ℕ) (records : List StepRecord) (table : List ℕ) (count : ℕ) (output : List ℕ) (claim : DeliversInOrder p l records table count output) where
  pub says_sent : InPutOrder (history (shape_for p l) (numbered records)) (root_operations (shape_for p l) (take (words_needed (shape_for p l)) table)) (map number_of (cut 4 count output))
  unfolding desk_rules
  says_sent = claim

  pub says_count : length claim.deliveries ≡ count
  unfolding cut says_sent
  says_count = says_each _ _ _ says_sent ∙ length-map (cut 4 count output) number_of ∙ cut_length count output
    where
      cut_length : (n : ℕ) (bs : List ℕ) → length (cut 4 n bs) ≡ n
      cut_length zero bs = refl
      cut_length (suc n) bs = ap suc (cut_length n (drop 4 bs))

-- ---- two entries, of terms 5 and 6, and two takes

abbrev operations : List Operation
operations = Put 2147483653 ∷ Put 2147483654 ∷ Take ∷ Take ∷ []

-- the first take, at position 2, gets put 1, and the second, at position 3, put 2
given : (i n : ℕ) → get_or (replies [] (with_numbers 0 operations)) i Nothing ≡ Value n
    → (i ≡ n + 1) × (1 ≤ n) × (n ≤ 2) × (get_or (values_put operations) (n - 1) 0 ≡ n + 2147483652)
unfolding desk_rules
given zero n e = absurd (omega (arith, ap reply_kind e))
given (suc zero) n e = absurd (omega (arith, ap reply_kind e))
given (suc (suc zero)) n e = let is : n ≡ 1 = sym (ap reply_value e) in rw is (refl, omega arith, omega arith, refl)
given (suc (suc (suc zero))) n e = let is : n ≡ 2 = sym (ap reply_value e) in rw is (refl, omega arith, omega arith, refl)
given (suc (suc (suc (suc i)))) n e = absurd (omega (arith, ap reply_kind e))

-- where the root order is of these operations
module _ (h : List Event) (order : List OpId) (these : map (λ x. does x h) order ≡ operations) where
  -- so the put of term t is put t - 4, and its take is at position t - 3
  from : (terms : List ℕ) (claim : InPutOrder h order terms) (i : ℕ) → i < length terms
      → (get_or terms i 0 ≡ (delivery h order terms claim i).put + 4)
      × ((delivery h order terms claim i).position ≡ (delivery h order terms claim i).put + 1)
      × (1 ≤ (delivery h order terms claim i).put)
      × ((delivery h order terms claim i).put ≤ 2)
  from terms claim i l =
      let d = delivery h order terms claim i in
      let g = given d.position d.put (ap (λ os. get_or (replies [] (with_numbers 0 os)) d.position Nothing) (sym these) ∙ says_given h order terms claim i l) in
      let v = ap (λ os. get_or (values_put os) (d.put - 1) 0) (sym these) ∙ says_value h order terms claim i l in
      (omega (arith, v, g.3), g.0, g.1, g.2)

  -- no more terms than takes
  pub at_most_two : (terms : List ℕ) → InPutOrder h order terms → length terms ≤ 2
  at_most_two [] claim = omega arith
  at_most_two (a ∷ []) claim = omega arith
  at_most_two (a ∷ b ∷ []) claim = omega arith
  at_most_two (a ∷ b ∷ c ∷ ts) claim =
      let terms : List ℕ = a ∷ b ∷ c ∷ ts in
      absurd (omega (
        arith,
        says_puts h order terms claim 0 1 (omega arith) (omega arith),
        says_puts h order terms claim 1 2 (omega arith) (omega arith),
        (from terms claim 0 (omega arith)).2,
        (from terms claim 2 (omega arith)).3,
      ))

  -- the terms exchanged; one of them twice
  pub exchanged : InPutOrder h order (6 ∷ 5 ∷ []) → ⊥
  exchanged claim =
      omega (arith, says_puts h order _ claim 0 1 (omega arith) (omega arith), (from _ claim 0 (omega arith)).0, (from _ claim 1 (omega arith)).0)

  pub twice : InPutOrder h order (5 ∷ 5 ∷ []) → ⊥
  twice claim =
      omega (arith, says_puts h order _ claim 0 1 (omega arith) (omega arith), (from _ claim 0 (omega arith)).0, (from _ claim 1 (omega arith)).0)

  -- the entry itself for its term; the term of no put
  pub not_subtracted : InPutOrder h order (2147483653 ∷ []) → ⊥
  not_subtracted claim = omega (arith, (from _ claim 0 (omega arith)).0, (from _ claim 0 (omega arith)).3)

  pub not_put : InPutOrder h order (7 ∷ []) → ⊥
  not_put claim = omega (arith, (from _ claim 0 (omega arith)).0, (from _ claim 0 (omega arith)).3)

-- a history of them: the puts by process 0, takes by processes 1 and 2, then what finishes
abbrev pub entries : List Event → List Event
entries ends =
    opens (operation 0 1) (Put 2147483653)
    ∷ finishes (operation 0 1)
    ∷ opens (operation 0 2) (Put 2147483654)
    ∷ finishes (operation 0 2)
    ∷ opens (operation 1 1) Take
    ∷ opens (operation 2 1) Take
    ∷ ends

abbrev pub order : List OpId
order = operation 0 1 ∷ operation 0 2 ∷ operation 1 1 ∷ operation 2 1 ∷ []

-- in the order of the answers, where the second take finishes first
pub as_answered : InPutOrder (entries (finishes (operation 2 1) ∷ finishes (operation 1 1) ∷ [])) order (6 ∷ 5 ∷ []) → ⊥
unfolding desk_rules
as_answered = exchanged _ order refl

-- the term of a take that did not finish, of the first or the second
module _ (ends : List Event) (term : ℕ) (claim : InPutOrder (entries ends) order (term ∷ [])) where
  these : map (λ x. does x (entries ends)) order ≡ operations
  unfolding desk_rules
  these = refl

  pub its_take : is_finished (get_or order (term - 3) nobody) (entries ends) ≡ true
  its_take =
      let f = from (entries ends) order these (term ∷ []) claim 0 (omega arith) in
      let is : term - 3 ≡ (delivery (entries ends) order (term ∷ []) claim 0).position = omega (arith, f.0, f.1) in
      ap (λ i. is_finished (get_or order i nobody) (entries ends)) is ∙ says_finished (entries ends) order (term ∷ []) claim 0 (omega arith)

pub first_unfinished : InPutOrder (entries (finishes (operation 2 1) ∷ [])) order (5 ∷ []) → ⊥
unfolding desk_rules
first_unfinished claim = false≢true (its_take _ 5 claim)

pub second_unfinished : InPutOrder (entries (finishes (operation 1 1) ∷ [])) order (6 ∷ []) → ⊥
unfolding desk_rules
second_unfinished claim = false≢true (its_take _ 6 claim)

-- the term of a put that no take got: the second take is not in the root order
pub not_taken : (ends : List Event) → InPutOrder (entries ends) (take 3 order) (6 ∷ []) → ⊥
unfolding desk_rules
not_taken ends claim = on (delivery _ _ _ claim 0).position (delivery _ _ _ claim 0).put (says_given _ _ _ claim 0 (omega arith)) (says_value _ _ _ claim 0 (omega arith))
  where
    on : (i n : ℕ) → get_or (Done ∷ Done ∷ Value 1 ∷ []) i Nothing ≡ Value n → get_or (values_put operations) (n - 1) 0 ≡ 2147483654 → ⊥
    on zero n e v = omega (arith, ap reply_kind e)
    on (suc zero) n e v = omega (arith, ap reply_kind e)
    on (suc (suc zero)) n e v = let is : n ≡ 1 = sym (ap reply_value e) in omega (arith, v, ap (λ n. get_or (values_put operations) (n - 1) 0) is)
    on (suc (suc (suc i))) n e v = omega (arith, ap reply_kind e)

-- ---- with the one thing put right, the clause holds

pub in_order : InPutOrder (entries (finishes (operation 2 1) ∷ finishes (operation 1 1) ∷ [])) order (5 ∷ 6 ∷ [])
unfolding desk_rules
in_order =
    record {
      deliveries = record { position = 2; put = 1 } ∷ record { position = 3; put = 2 } ∷ [];
      received = (record { finished = refl; given = refl }, (record { finished = refl; given = refl }, tt));
      values = refl;
      takes_rise = ((omega arith, tt), (tt, tt));
      puts_rise = ((omega arith, tt), (tt, tt));
    }

pub second_alone : InPutOrder (entries (finishes (operation 2 1) ∷ [])) order (6 ∷ [])
unfolding desk_rules
second_alone =
    record {
      deliveries = record { position = 3; put = 2 } ∷ [];
      received = (record { finished = refl; given = refl }, tt);
      values = refl;
      takes_rise = (tt, tt);
      puts_rise = (tt, tt);
    }

-- what it does not claim: that each term received is sent; the equation with the definition does
pub none_sent : (ends : List Event) → InPutOrder (entries ends) order []
unfolding desk_rules
none_sent ends = record { deliveries = []; received = tt; values = refl; takes_rise = tt; puts_rise = tt }

-- ---- bytes in the place of terms

-- the same by step records, both takes by process 1, and the table that they leave
abbrev pub records : List ℕ
records = begin_put 2147483653 0 ++ steps 17 0 ++ begin_put 2147483654 0 ++ steps 17 0 ++ begin_take 1 ++ steps 17 1 ++ begin_take 1 ++ steps 17 1

abbrev pub Delivers : ℕ → List ℕ → Type 0
Delivers count output = DeliversInOrder 2 2 (step_records records) (run 2 2 records (replicate 77 0) (replicate 64 0)).table count output

-- the terms exchanged; the high byte first
pub bytes_exchanged : Delivers 2 (6 ∷ 0 ∷ 0 ∷ 0 ∷ 5 ∷ 0 ∷ 0 ∷ 0 ∷ []) → ⊥
unfolding desk_rules begin_put begin_take steps
bytes_exchanged claim = exchanged _ _ refl claim

pub high_byte_first : Delivers 1 (0 ∷ 0 ∷ 0 ∷ 5 ∷ []) → ⊥
unfolding desk_rules begin_put begin_take steps
high_byte_first claim = omega (arith, (from _ _ refl _ claim 0 (omega arith)).0, (from _ _ refl _ claim 0 (omega arith)).3)
