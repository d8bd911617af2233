-- The order of delivery: of two terms received, the one whose put is earlier in root order comes first. It is told by
-- the root order, a plain queue and what finished.
use Rattle.std.specs.Prelude.{ℕ, suc, ◌+◌, ◌-◌, ◌<◌, ◌≡◌, true, List, [], ◌∷◌, map, take, get_or}
use Rattle.base.specs.Members.{All}
use Rattle.record.specs.declared.StepRecord.{StepRecord}
use Rattle.record.specs.declared.Reply.{Reply}
use Rattle.record.specs.declared.Reply.TheVariants.{Value, Nothing}
use Rattle.encoding.specs.Bytes.{number_of, cut}
use Rattle.tree.specs.Shape.{shape_for}
use Rattle.tree.specs.Layout.{words_needed}
use Rattle.tree.specs.Order.{OpId, root_operations}
use Rattle.steps.specs.declared.Operation.{Operation}
use Rattle.steps.specs.declared.Operation.TheVariants.{Put, Take}
use Rattle.calls.specs.Numbered.{numbered}
use Rattle.calls.specs.PlainQueue.{fed, answers}
use Rattle.calls.specs.History.{Event, history, is_finished, does}
use Rattle.desk_rules.specs.Entries.{first_entry, term_size}

-- each number is below all that follow it
unfoldable pub Rising : List ℕ → Type 0
Rising [] = Unit {0}
Rising (n ∷ ns) = All (λ i. n < i) ns × Rising ns

-- the values put by some operations, in their order: put number j is the j-th, from 1
unfoldable pub values_put : List Operation → List ℕ
values_put [] = []
values_put (Put v ∷ os) = v ∷ values_put os
values_put (Take ∷ os) = values_put os

-- operations that follow n puts, each put with its number in place of its value
unfoldable pub with_numbers : ℕ → List Operation → List Operation
with_numbers n [] = []
with_numbers n (Put v ∷ os) = Put (suc n) ∷ with_numbers (suc n) os
with_numbers n (Take ∷ os) = Take ∷ with_numbers n os

-- what a plain queue answers to operations that it is fed one after the other
unfoldable pub replies : List ℕ → List Operation → List Reply
replies q [] = []
replies q (o ∷ os) = answers o q ∷ replies (fed o q) os

-- a term that was delivered: the position of its take in the root order, from 0, and the number of its put among the
-- puts there, from 1
pub record Delivery : Type 0 where
  pub position : ℕ
  pub put : ℕ

-- what the operations of an order do, by their begin records
abbrev pub operations_of : List Event → List OpId → List Operation
operations_of h order = map (λ x. does x h) order

-- of a delivery, where `order` is the root order and h the history: the operation at its position finished, and a plain
-- queue that is fed the root order, each put with its number in place of its value, answers it the put's number. So it
-- is a take in the order: a put, and what is past the order, is answered no number.
pub record Received (h : List Event) (order : List OpId) (d : Delivery) : Type 0 where
  pub finished : is_finished (get_or order d.position (record { process = 0; serial = 0 })) h ≡ true
  pub given : get_or (replies [] (with_numbers 0 (operations_of h order))) d.position Nothing ≡ Value d.put

-- of the terms sent: each is the value of a put in root order, less 2^31, which a finished take received; the takes
-- stand in the order of the terms, and so do the puts. (2^31 or more is no value past the puts, which reads as 0.)
pub record InPutOrder (h : List Event) (order : List OpId) (terms : List ℕ) : Type 0 where
  pub deliveries : List Delivery
  pub received : All (Received h order) deliveries
  pub values : map (λ d. get_or (values_put (operations_of h order)) (d.put - 1) 0) deliveries ≡ map (λ t. t + first_entry) terms
  pub takes_rise : Rising (map (λ d. d.position) deliveries)
  pub puts_rise : Rising (map (λ d. d.put) deliveries)

-- on p, L, the records of a list that was not refused, the table words left, the number of terms and the output left
abbrev pub DeliversInOrder : ℕ → ℕ → List StepRecord → List ℕ → ℕ → List ℕ → Type 0
DeliversInOrder p l records table count output =
    let s = shape_for p l in
    InPutOrder (history s (numbered records)) (root_operations s (take (words_needed s) table)) (map number_of (cut term_size count output))
