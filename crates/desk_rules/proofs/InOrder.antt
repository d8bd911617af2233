-- Where each operation stands at most once in the root order, and a finished one responds what the plain queue answers
-- it and another with none, the terms are in the order of their puts.
use Rattle.std.specs.Prelude.{if◌then◌else◌}
use Prim.Native.Nat.{ℕ, suc, ◌+◌, ◌-◌, ◌≤◌}
use native.Mathlib.Omega.{arith}
use mathlib.Core.Path.{◌≡◌, refl, ap, sym, ◌∙◌}
use mathlib.Core.Bool.{Bool, true, false}
use mathlib.Core.List.{List, [], ◌∷◌, ◌++◌, map, flat_map}
use lib.ListN.{get_or, get_or-map}
use lib.Seq.{append_snoc}
use Rattle.base.proofs.Members.{all_map}
use Rattle.record.specs.declared.AnswerRecord.{AnswerRecord}
use Rattle.record.specs.declared.Reply.{Reply}
use Rattle.record.specs.declared.Reply.TheVariants.{Nothing}
use Rattle.tree.specs.Shape.{Shape}
use Rattle.tree.specs.Order.{OpId, root_operations}
use Rattle.tree.specs.Standing.{same, times}
use Rattle.tree.proofs.Names.{same_refl, times_append}
use Rattle.steps.specs.declared.Operation.{Operation}
use Rattle.calls.specs.PlainQueue.{fed, answers}
use Rattle.calls.specs.History.{Event, is_finished, does}
use Rattle.calls.specs.Demand3.{queue_after, queue_answer}
use Rattle.calls.specs.Linearizable.{response}
use Rattle.calls.proofs.Feeding.{queue_append, answer_past}
use Rattle.desk_rules.specs.Entries.{first_entry}
use Rattle.desk_rules.specs.Desk.{term_in, terms}
use Rattle.desk_rules.specs.Deliveries.{values_put, with_numbers, replies, Delivery, InPutOrder}
use Rattle.desk_rules.proofs.Rises.{rises_none}
use Rattle.desk_rules.proofs.TwoQueues.{Feed, feed, finished_in, operation_in, given, delivered, delivered_values, places_rise, puts_rise_lem, delivered_received}

module _ (s : Shape) (t : List ℕ) (h : List Event) (log : List AnswerRecord) (once : (x : OpId) → times x (root_operations s t) ≤ 1)
    (answered : (x : OpId) → is_finished x h ≡ true → response log x ≡ queue_answer h x [] (root_operations s t))
    (unanswered : (x : OpId) → is_finished x h ≡ false → response log x ≡ Nothing)
  where
    abbrev order : List OpId
    order = root_operations s t

    -- ---- the terms are those that finished takes get from a plain queue
    feeds : List OpId → List Feed
    feeds xs = map (λ x. feed (is_finished x h) (does x h)) xs

    -- an operation of the root order, after those before it
    module _ (before : List OpId) (x : OpId) (after : List OpId) (is : root_operations s t ≡ before ++ (x ∷ after)) where
      abbrev q : List ℕ
      q = queue_after h [] before

      new : times x before ≡ 0
      unfolding times
      new = omega (arith, once x, ap (times x) is, times_append x before (x ∷ after), again (same x x) (same_refl x))
        where
          again : (b : Bool) → b ≡ true → 1 ≤ (if b then suc (times x after) else times x after)
          again b e = rw e (omega arith)

      queue_next : queue_after h [] (before ++ (x ∷ [])) ≡ fed (does x h) q
      unfolding queue_after
      queue_next = queue_append h [] before (x ∷ [])

      queue_told : queue_answer h x [] order ≡ answers (does x h) q
      unfolding queue_answer
      queue_told = ap (queue_answer h x []) is ∙ answer_past h x [] before (x ∷ after) new ∙ rw (same_refl x)

      told : response log x ≡ (if is_finished x h then answers (does x h) q else Nothing)
      told = on (is_finished x h) refl
        where
          on : (b : Bool) → is_finished x h ≡ b → response log x ≡ (if b then answers (does x h) q else Nothing)
          on true e = answered x e ∙ queue_told
          on false e = unanswered x e

    terms_after : (before after : List OpId) → order ≡ before ++ after → flat_map (λ x. term_in (response log x)) after ≡ given (queue_after h [] before) (feeds after)
    unfolding given feeds flat_map
    terms_after before [] e = refl
    terms_after before (x ∷ after) e =
        rw (told before x after e)
        (ap (λ l. term_in (if is_finished x h then answers (does x h) (queue_after h [] before) else Nothing) ++ l)
        (terms_after (before ++ (x ∷ [])) after (e ∙ sym (append_snoc before x after)) ∙ ap (λ q. given q (feeds after)) (queue_next before x after e)))

    terms_given : terms s log t ≡ given [] (feeds order)
    unfolding terms queue_after
    terms_given = terms_after [] order refl

    -- ---- what is fed
    fed_operations : (xs : List OpId) → map operation_in (feeds xs) ≡ map (λ x. does x h) xs
    unfolding feeds
    fed_operations [] = refl
    fed_operations (x ∷ xs) = ap (λ l. does x h ∷ l) (fed_operations xs)

    fed_finished : (xs : List OpId) → map finished_in (feeds xs) ≡ map (λ x. is_finished x h) xs
    unfolding feeds
    fed_finished [] = refl
    fed_finished (x ∷ xs) = ap (λ l. is_finished x h ∷ l) (fed_finished xs)

    abbrev operations : List Operation
    operations = map (λ x. does x h) order

    abbrev no_op : OpId
    no_op = record { process = 0; serial = 0 }

    abbrev val : ℕ → ℕ
    val j = get_or (values_put operations) (j - 1) 0

    abbrev deliveries : List Delivery
    deliveries = delivered val 0 0 [] (feeds order)

    values_from : (i : ℕ) → get_or (values_put (map operation_in (feeds order))) i 0 ≡ val (suc (0 + i))
    values_from i =
        let e : i ≡ suc (0 + i) - 1 = omega arith in
        ap (λ os. get_or (values_put os) i 0) (fed_operations order) ∙ ap (λ (k : ℕ). get_or (values_put operations) k 0) e

    abbrev flag : ℕ → Bool
    flag i = is_finished (get_or order i no_op) h

    abbrev reply : ℕ → Reply
    reply i = get_or (replies [] (with_numbers 0 operations)) i Nothing

    flags_from : (i : ℕ) → get_or (map finished_in (feeds order)) i (is_finished no_op h) ≡ flag (0 + i)
    flags_from i =
        let e : i ≡ 0 + i = omega arith in
        ap (λ fs. get_or fs i (is_finished no_op h)) (fed_finished order) ∙ get_or-map (λ x. is_finished x h) order i no_op ∙ ap flag e

    replies_from : (i : ℕ) → get_or (replies [] (with_numbers 0 (map operation_in (feeds order)))) i Nothing ≡ reply (0 + i)
    replies_from i = let e : i ≡ 0 + i = omega arith in ap (λ os. get_or (replies [] (with_numbers 0 os)) i Nothing) (fed_operations order) ∙ ap reply e

    pub in_put_order : InPutOrder h (root_operations s t) (terms s log t)
    in_put_order =
        record {
          deliveries = deliveries;
          received =
              all_map deliveries (λ d p. record { finished = p.0; given = p.1 })
              (delivered_received val flag reply (is_finished no_op h) (feeds order) 0 0 [] (λ i. (flags_from i, replies_from i)));
          values = delivered_values val (feeds order) 0 0 [] (λ i l. values_from i) ∙ ap (map (λ t. t + first_entry)) (sym terms_given);
          takes_rise = (places_rise val (feeds order) 0 0 []).rising;
          puts_rise = (puts_rise_lem val (feeds order) 0 0 [] 0 (omega arith) tt (rises_none 0)).rising;
        }
