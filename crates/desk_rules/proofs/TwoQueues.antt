-- A plain queue that is fed values, and one that is fed the numbers of the puts: the terms of the first, and by the
-- second which take gives each of them and which put it is from.
use Rattle.std.specs.Prelude.{if◌then◌else◌}
use Prim.Native.Nat.{ℕ, suc, ◌+◌, ◌≤◌, ◌<◌}
use native.Mathlib.Omega.{arith}
use native.Mathlib.Nat.{le_refl}
use mathlib.Core.Path.{◌≡◌, refl, ap, sym, ◌∙◌}
use mathlib.Core.Bool.{Bool, true, false, ◌&&◌}
use mathlib.Core.List.{List, [], ◌∷◌, ◌++◌, map, map-append}
use lib.ListN.{length, get_or}
use borrow.Author.Tests.{leb-true}
use Rattle.base.specs.Members.{All}
use Rattle.base.proofs.Members.{all_map, all_append}
use Rattle.record.specs.declared.Reply.{Reply}
use Rattle.record.specs.declared.Reply.TheVariants.{Value, Nothing}
use Rattle.steps.specs.declared.Operation.{Operation}
use Rattle.steps.specs.declared.Operation.TheVariants.{Put, Take}
use Rattle.calls.specs.PlainQueue.{fed, answers}
use Rattle.desk_rules.specs.Entries.{first_entry, is_entry, term_of}
use Rattle.desk_rules.specs.Desk.{term_in}
use Rattle.desk_rules.specs.Deliveries.{values_put, with_numbers, replies, Delivery}
use Rattle.desk_rules.proofs.Rises.{RisingFrom, rises_none, rises_first, rises_rest, rises_lower, rises_last}

-- what is fed: whether the operation finished, and what it does
pub data Feed : Type 0 where
  feed : Bool → Operation → Feed

abbrev pub finished_in : Feed → Bool
finished_in (feed f o) = f

abbrev pub operation_in : Feed → Operation
operation_in (feed f o) = o

-- the terms that finished takes get from queue q
unfoldable pub given : List ℕ → List Feed → List ℕ
given q [] = []
given q (feed f o ∷ zs) = term_in (if f then answers o q else Nothing) ++ given (fed o q) zs

-- the deliveries of operations that follow `place` others, n of them puts, where ns are the numbers of the puts that
-- are in the queue and `val` is the value of each put
unfoldable pub delivered : (ℕ → ℕ) → ℕ → ℕ → List ℕ → List Feed → List Delivery
delivered val place n ns [] = []
delivered val place n ns (feed f (Put v) ∷ zs) = delivered val (suc place) (suc n) (ns ++ (suc n ∷ [])) zs
delivered val place n [] (feed f Take ∷ zs) = delivered val (suc place) n [] zs
delivered val place n (j ∷ ns) (feed f Take ∷ zs) =
    (if f && is_entry (val j) then record { position = place; put = j } ∷ [] else []) ++ delivered val (suc place) n ns zs

-- ---- the values
entry_term : (v : ℕ) → is_entry v ≡ true → term_of v + first_entry ≡ v
unfolding is_entry term_of
entry_term v e = omega (arith, leb-true first_entry v e)

no_term : (f : Bool) (r : Reply) → term_in r ≡ [] → term_in (if f then r else Nothing) ≡ []
unfolding term_in
no_term true r e = e
no_term false r e = refl

module _ (val : ℕ → ℕ) where
  abbrev value_of : Delivery → ℕ
  value_of d = val d.put

  abbrev entry_of : ℕ → ℕ
  entry_of t = t + first_entry

  -- the values of the puts to come are those of the numbers to come
  abbrev ValuesFrom : ℕ → List Feed → Type 0
  ValuesFrom n zs = (i : ℕ) → i < length (values_put (map operation_in zs)) → get_or (values_put (map operation_in zs)) i 0 ≡ val (suc (n + i))

  put_here : (n : ℕ) (f : Bool) (v : ℕ) (zs : List Feed) → ValuesFrom n (feed f (Put v) ∷ zs) → v ≡ val (suc n)
  unfolding values_put
  put_here n f v zs h = let e : n + 0 ≡ n = omega arith in h 0 (omega arith) ∙ ap (λ (i : ℕ). val (suc i)) e

  puts_later : (n : ℕ) (f : Bool) (v : ℕ) (zs : List Feed) → ValuesFrom n (feed f (Put v) ∷ zs) → ValuesFrom (suc n) zs
  unfolding values_put
  puts_later n f v zs h i l = let e : n + suc i ≡ suc n + i = omega arith in h (suc i) (omega arith) ∙ ap (λ (i : ℕ). val (suc i)) e

  takes_later : (n : ℕ) (f : Bool) (zs : List Feed) → ValuesFrom n (feed f Take ∷ zs) → ValuesFrom n zs
  unfolding values_put
  takes_later n f zs h = h

  pub delivered_values : (zs : List Feed) (place n : ℕ) (ns : List ℕ) → ValuesFrom n zs
      → map (λ (d : Delivery). val d.put) (delivered val place n ns zs) ≡ map (λ (t : ℕ). t + first_entry) (given (map val ns) zs)
  unfolding delivered given fed answers term_in
  delivered_values [] place n ns h = refl
  delivered_values (feed f (Put v) ∷ zs) place n ns h =
      delivered_values zs (suc place) (suc n) (ns ++ (suc n ∷ [])) (puts_later n f v zs h)
      ∙ ap (λ (q : List ℕ). map entry_of (given q zs)) (map-append val ns (suc n ∷ []) ∙ ap (λ (x : ℕ). map val ns ++ (x ∷ [])) (sym (put_here n f v zs h)))
      ∙ ap (λ (l : List ℕ). map entry_of (l ++ given (map val ns ++ (v ∷ [])) zs)) (sym (no_term f (answers (Put v) (map val ns)) done))
    where
      done : term_in (answers (Put v) (map val ns)) ≡ []
      done = refl
  delivered_values (feed f Take ∷ zs) place n [] h =
      delivered_values zs (suc place) n [] (takes_later n f zs h)
      ∙ ap (λ (l : List ℕ). map entry_of (l ++ given [] zs)) (sym (no_term f Nothing none))
    where
      none : term_in Nothing ≡ []
      none = refl
  delivered_values (feed f Take ∷ zs) place n (j ∷ ns) h = on f (is_entry (val j)) refl (delivered_values zs (suc place) n ns (takes_later n f zs h))
    where
      rest : List Delivery
      rest = delivered val (suc place) n ns zs

      on : (f b : Bool) → is_entry (val j) ≡ b → map value_of rest ≡ map entry_of (given (map val ns) zs)
          → map value_of ((if f && b then record { position = place; put = j } ∷ [] else []) ++ rest)
          ≡ map entry_of (term_in (if f then Value (val j) else Nothing) ++ given (map val ns) zs)
      on false b e ih = ih
      on true true e ih = rw e (λ i. sym (entry_term (val j) e) i ∷ ih i)
      on true false e ih = rw e ih

  -- ---- the places and the numbers rise
  pub places_rise : (zs : List Feed) (place n : ℕ) (ns : List ℕ) → RisingFrom place (map (λ (d : Delivery). d.position) (delivered val place n ns zs))
  unfolding delivered
  places_rise [] place n ns = rises_none place
  places_rise (feed f (Put v) ∷ zs) place n ns = rises_lower place (suc place) _ (omega arith) (places_rise zs (suc place) (suc n) (ns ++ (suc n ∷ [])))
  places_rise (feed f Take ∷ zs) place n [] = rises_lower place (suc place) _ (omega arith) (places_rise zs (suc place) n [])
  places_rise (feed f Take ∷ zs) place n (j ∷ ns) = on (f && is_entry (val j)) (places_rise zs (suc place) n ns)
    where
      rest : List Delivery
      rest = delivered val (suc place) n ns zs

      on : (b : Bool) → RisingFrom (suc place) (map (λ d. d.position) rest) → RisingFrom place (map (λ d. d.position) ((if b then record { position = place; put = j } ∷ [] else []) ++ rest))
      on true a = rises_first place place _ (le_refl place) a
      on false a = rises_lower place (suc place) _ (omega arith) a

  -- where the numbers in the queue rise and are at most n
  pub puts_rise_lem : (zs : List Feed) (place n : ℕ) (ns : List ℕ) (low : ℕ) → low ≤ suc n → All (λ i. i ≤ n) ns → RisingFrom low ns
      → RisingFrom low (map (λ (d : Delivery). d.put) (delivered val place n ns zs))
  unfolding delivered
  puts_rise_lem [] place n ns low l b a = rises_none low
  puts_rise_lem (feed f (Put v) ∷ zs) place n ns low l b a =
      puts_rise_lem zs (suc place) (suc n) (ns ++ (suc n ∷ [])) low (omega arith)
      (all_append _ ns (suc n ∷ []) (all_map ns (λ i h. omega (arith, h)) b) (le_refl (suc n), tt))
      (rises_last low (suc n) ns l (all_map ns (λ i h. omega (arith, h)) b) a)
  puts_rise_lem (feed f Take ∷ zs) place n [] low l b a = puts_rise_lem zs (suc place) n [] low l b a
  puts_rise_lem (feed f Take ∷ zs) place n (j ∷ ns) low l b a =
      on (f && is_entry (val j)) (puts_rise_lem zs (suc place) n ns (suc j) (omega (arith, b.0)) b.1 (rises_rest low j ns a))
    where
      rest : List Delivery
      rest = delivered val (suc place) n ns zs

      on : (b : Bool) → RisingFrom (suc j) (map (λ d. d.put) rest) → RisingFrom low (map (λ d. d.put) ((if b then record { position = place; put = j } ∷ [] else []) ++ rest))
      on true r = rises_first low j _ a.all.0 r
      on false r = rises_lower low (suc j) _ (omega (arith, a.all.0)) r

  -- ---- each delivery is of a finished take, to which the queue of numbers answers its put's number
  module _ (flag : ℕ → Bool) (reply : ℕ → Reply) (b : Bool) where
    abbrev From : ℕ → ℕ → List ℕ → List Feed → Type 0
    From place n ns zs =
        (i : ℕ) → (get_or (map finished_in zs) i b ≡ flag (place + i)) × (get_or (replies ns (with_numbers n (map operation_in zs))) i Nothing ≡ reply (place + i))

    abbrev Ok : Delivery → Type 0
    Ok d = (flag d.position ≡ true) × (reply d.position ≡ Value d.put)

    -- the next operation, and those after it
    next : {A : Type 0} (x : A) (f : ℕ → A) (place : ℕ) → x ≡ f (place + 0) → x ≡ f place
    next x f place h = let e : place + 0 ≡ place = omega arith in h ∙ ap f e

    later : (place n : ℕ) (ns : List ℕ) (zs : List Feed)
        → ((i : ℕ) → (get_or (map finished_in zs) i b ≡ flag (place + suc i)) × (get_or (replies ns (with_numbers n (map operation_in zs))) i Nothing ≡ reply (place + suc i)))
        → From (suc place) n ns zs
    later place n ns zs h i = let e : place + suc i ≡ suc place + i = omega arith in ((h i).0 ∙ ap flag e, (h i).1 ∙ ap reply e)

    pub delivered_received : (zs : List Feed) (place n : ℕ) (ns : List ℕ) → From place n ns zs
        → All (λ (d : Delivery). (flag d.position ≡ true) × (reply d.position ≡ Value d.put)) (delivered val place n ns zs)
    unfolding delivered with_numbers replies fed answers
    delivered_received [] place n ns h = tt
    delivered_received (feed f (Put v) ∷ zs) place n ns h = delivered_received zs (suc place) (suc n) (ns ++ (suc n ∷ [])) (later place (suc n) (ns ++ (suc n ∷ [])) zs (λ i. h (suc i)))
    delivered_received (feed f Take ∷ zs) place n [] h = delivered_received zs (suc place) n [] (later place n [] zs (λ i. h (suc i)))
    delivered_received (feed f Take ∷ zs) place n (j ∷ ns) h =
        on f (is_entry (val j)) (next f flag place (h 0).0) (next (Value j) reply place (h 0).1) (delivered_received zs (suc place) n ns (later place n ns zs (λ i. h (suc i))))
      where
        on : (f e : Bool) → f ≡ flag place → Value j ≡ reply place → All Ok (delivered val (suc place) n ns zs)
            → All Ok ((if f && e then record { position = place; put = j } ∷ [] else []) ++ delivered val (suc place) n ns zs)
        on true true p q a = ((sym p, sym q), a)
        on true false p q a = a
        on false e p q a = a
