-- The plain queue, fed lists of operations.
use Rattle.std.specs.Prelude.{if◌then◌else◌}
use Prim.Native.Nat.{ℕ, suc, ◌+◌, ◌-◌, ◌≤◌, ◌<◌}
use native.Mathlib.Omega.{arith}
use native.Mathlib.Decide.{dec_le}
use mathlib.Core.Path.{◌≡◌, refl, ap, sym, ◌∙◌}
use mathlib.Core.Bool.{Bool, true, false}
use mathlib.Core.List.{List, [], ◌∷◌, ◌++◌, map, foldl-append, append-nil}
use lib.ListN.{length, get_or, drop, drop_of_length-le}
use lib.Seq.{append_snoc, drop-drop, drop-cons}
use lib.Dec.{eqb}
use borrow.Author.Tests.{eq-eqb, ne_eqb}
use Rattle.base.specs.Members.{All}
use Rattle.record.specs.declared.Reply.{Reply}
use Rattle.record.specs.declared.Reply.TheVariants.{Done, Value, Nothing}
use Rattle.tree.specs.Order.{OpId}
use Rattle.tree.specs.Standing.{same, times, rank_in}
use Rattle.steps.specs.declared.Operation.TheVariants.{Put, Take}
use Rattle.calls.specs.PlainQueue.{fed, answers}
use Rattle.calls.specs.History.{Event, does}
use Rattle.calls.specs.Demand3.{queue_after, queue_answer}
use Rattle.tree.proofs.Names.{same_eq}

fed_take : (q : List ℕ) → fed Take q ≡ drop 1 q
unfolding fed
fed_take [] = refl
fed_take (x ∷ q) = refl

drop_more : (n : ℕ) (q : List ℕ) → drop n (drop 1 q) ≡ drop (suc n) q
drop_more n q = let e : 1 + n ≡ suc n = omega arith in drop-drop n 1 q ∙ ap (λ (j : ℕ). drop j q) e

-- ---- what the queue then holds

module _ (h : List Event) where
  pub queue_append : (q : List ℕ) (xs ys : List OpId) → queue_after h q (xs ++ ys) ≡ queue_after h (queue_after h q xs) ys
  unfolding queue_after
  queue_append q xs ys = foldl-append (λ (c : List ℕ) (x : OpId). fed (does x h) c) q xs ys

  -- puts alone append their values
  pub queue_puts : (val : OpId → ℕ) (q : List ℕ) (xs : List OpId) → All (λ x. does x h ≡ Put (val x)) xs → queue_after h q xs ≡ q ++ map val xs
  unfolding queue_after fed
  queue_puts val q [] a = sym (append-nil q)
  queue_puts val q (x ∷ xs) a = rw a.0 (queue_puts val (q ++ (val x ∷ [])) xs a.1 ∙ append_snoc q (val x) (map val xs))

  -- takes alone drop as many
  pub queue_takes : (q : List ℕ) (xs : List OpId) → All (λ x. does x h ≡ Take) xs → queue_after h q xs ≡ drop (length xs) q
  unfolding queue_after
  queue_takes q [] a = refl
  queue_takes q (x ∷ xs) a = rw (a.0, fed_take q) (queue_takes (drop 1 q) xs a.1 ∙ drop_more (length xs) q)

-- ---- what it answers

module _ (h : List Event) (x : OpId) where
  -- to one that is not among the first
  pub answer_past : (q : List ℕ) (xs ys : List OpId) → times x xs ≡ 0 → queue_answer h x q (xs ++ ys) ≡ queue_answer h x (queue_after h q xs) ys
  unfolding queue_answer queue_after times
  answer_past q [] ys e = refl
  answer_past q (y ∷ xs) ys e = on (same x y) e (answer_past (fed (does y h) q) xs ys)
    where
      r : Reply
      r = queue_answer h x (queue_after h (fed (does y h) q) xs) ys

      on : (b : Bool) → (if b then suc (times x xs) else times x xs) ≡ 0 → (times x xs ≡ 0 → queue_answer h x (fed (does y h) q) (xs ++ ys) ≡ r)
          → (if b then answers (does y h) q else queue_answer h x (fed (does y h) q) (xs ++ ys)) ≡ r
      on true e ih = absurd (omega arith)
      on false e ih = ih e

  -- to one that is: what follows does not matter
  pub answer_in : (q : List ℕ) (xs ys : List OpId) → 1 ≤ times x xs → queue_answer h x q (xs ++ ys) ≡ queue_answer h x q xs
  unfolding queue_answer times
  answer_in q [] ys l = absurd (omega arith)
  answer_in q (y ∷ xs) ys l = on (same x y) l (answer_in (fed (does y h) q) xs ys)
    where
      on : (b : Bool) → 1 ≤ (if b then suc (times x xs) else times x xs)
          → (1 ≤ times x xs → queue_answer h x (fed (does y h) q) (xs ++ ys) ≡ queue_answer h x (fed (does y h) q) xs)
          → (if b then answers (does y h) q else queue_answer h x (fed (does y h) q) (xs ++ ys)) ≡ (if b then answers (does y h) q else queue_answer h x (fed (does y h) q) xs)
      on true l ih = refl
      on false l ih = ih l

  -- to a put
  pub answer_put : (v : ℕ) → does x h ≡ Put v → (q : List ℕ) (xs : List OpId) → 1 ≤ times x xs → queue_answer h x q xs ≡ Done
  unfolding queue_answer times answers
  answer_put v p q [] l = absurd (omega arith)
  answer_put v p q (y ∷ xs) l = on (same x y) refl l (answer_put v p (fed (does y h) q) xs)
    where
      on : (b : Bool) → same x y ≡ b → 1 ≤ (if b then suc (times x xs) else times x xs) → (1 ≤ times x xs → queue_answer h x (fed (does y h) q) xs ≡ Done)
          → (if b then answers (does y h) q else queue_answer h x (fed (does y h) q) xs) ≡ Done
      on true e l ih = rw (← same_eq x y e, p)
      on false e l ih = ih l

  -- to one of takes alone: the i-th gets the front of what the takes before it leave
  pub answer_take : (q : List ℕ) (xs : List OpId) → All (λ y. does y h ≡ Take) xs → 1 ≤ rank_in x xs → queue_answer h x q xs ≡ answers Take (drop (rank_in x xs - 1) q)
  unfolding queue_answer rank_in
  answer_take q [] a l = absurd (omega arith)
  answer_take q (y ∷ ys) a l = rw (a.0, fed_take q) (on (same x y) l (answer_take (drop 1 q) ys a.1))
    where
      on : (b : Bool) → 1 ≤ (if b then 1 else (if eqb (rank_in x ys) 0 then 0 else suc (rank_in x ys)))
          → (1 ≤ rank_in x ys → queue_answer h x (drop 1 q) ys ≡ answers Take (drop (rank_in x ys - 1) (drop 1 q)))
          → (if b then answers Take q else queue_answer h x (drop 1 q) ys) ≡ answers Take (drop ((if b then 1 else (if eqb (rank_in x ys) 0 then 0 else suc (rank_in x ys))) - 1) q)
      on true l ih = refl
      on false l ih = some (dec_le 1 (rank_in x ys))
        where
          some : Dec (1 ≤ rank_in x ys) → queue_answer h x (drop 1 q) ys ≡ answers Take (drop ((if eqb (rank_in x ys) 0 then 0 else suc (rank_in x ys)) - 1) q)
          some (yes k) =
              let e : suc (rank_in x ys - 1) ≡ suc (rank_in x ys) - 1 = omega arith in
              rw (ne_eqb (rank_in x ys) 0 (λ z. omega arith)) (ih k ∙ ap (answers Take) (drop_more (rank_in x ys - 1) q ∙ ap (λ (j : ℕ). drop j q) e))
          some (no k) = let z : rank_in x ys ≡ 0 = omega arith in absurd (omega (arith, rw (eq-eqb (rank_in x ys) 0 z) at l))

-- ---- two histories in which the operations do the same

module _ (h k : List Event) where
  pub queue_same : (q : List ℕ) (xs : List OpId) → All (λ x. does x h ≡ does x k) xs → queue_after h q xs ≡ queue_after k q xs
  unfolding queue_after
  queue_same q [] a = refl
  queue_same q (x ∷ xs) a = rw a.0 (queue_same (fed (does x k) q) xs a.1)

  pub answer_same : (x : OpId) (q : List ℕ) (xs : List OpId) → All (λ y. does y h ≡ does y k) xs → queue_answer h x q xs ≡ queue_answer k x q xs
  unfolding queue_answer
  answer_same x q [] a = refl
  answer_same x q (y ∷ ys) a = rw (a.0, answer_same x (fed (does y k) q) ys a.1)

-- ---- the front of what is left

pub take_some : (q : List ℕ) (j d : ℕ) → j < length q → answers Take (drop j q) ≡ Value (get_or q j d)
unfolding answers
take_some q j d l = rw (drop-cons q j d l)

pub take_none : (q : List ℕ) (j : ℕ) → length q ≤ j → answers Take (drop j q) ≡ Nothing
unfolding answers
take_none q j l = rw (drop_of_length-le q {i = j} l)
