-- Where history and machine agree, the history is linearizable: the root order is a linearization.
use Rattle.std.specs.Prelude.{if◌then◌else◌}
use Prim.Native.Nat.{ℕ, suc, ◌≤◌, ◌<◌}
use native.Mathlib.Omega.{arith}
use mathlib.Core.Path.{◌≡◌, refl, ap, sym, ◌∙◌}
use mathlib.Core.Bool.{Bool, true, false, ◌&&◌, ◌||◌, false≢true}
use mathlib.Core.List.{List, [], ◌∷◌, ◌++◌, map, flat_map}
use lib.Dec.{ltb}
use borrow.Author.Tests.{lt-ltb, le-leb, lt-leb}
use Rattle.base.specs.Between.{between}
use Rattle.base.proofs.Cases.{or-false}
use Rattle.base.proofs.Gather.{gather_split}
use Rattle.record.specs.declared.AnswerRecord.{AnswerRecord}
use Rattle.record.specs.declared.Reply.{Reply}
use Rattle.record.specs.declared.Reply.TheVariants.{Nothing}
use Rattle.record.specs.AnswerRecords.{log_bytes}
use Rattle.tree.specs.declared.Kind.{Kind}
use Rattle.tree.specs.declared.Kind.TheVariants.{Puts, Takes}
use Rattle.tree.specs.Shape.{Shape, processes, leaf_of}
use Rattle.tree.specs.Memory.{Memory}
use Rattle.tree.specs.Order.{OpId, in_root, last_root, block_order, root_order, root_operations}
use Rattle.tree.specs.Standing.{same, times}
use Rattle.tree.specs.Clauses.Invariant.{Present, Sound}
use Rattle.tree.proofs.Names.{same_eq, times_append}
use Rattle.tree.proofs.Counting.{mark, of_kind, kinds_one}
use Rattle.tree.proofs.LastRoot.{root_written}
use Rattle.tree.proofs.Operations.{ops_of, ops_append, order_times}
use Rattle.tree.proofs.Reached.{reached, reached_present}
use Rattle.tree.proofs.Once.{kind_count, stands_found}
use Rattle.steps.specs.Machine.{Machine}
use Rattle.calls.specs.History.{Event, opens, moves, finishes, operation, is_finish, is_finished}
use Rattle.calls.specs.Demand3.{queue_answer, queue_record, finishing, QueuePromises}
use Rattle.calls.specs.Linearizable.{response, precedes, Linearizable}
use Rattle.calls.proofs.Agrees.{Before, Agrees}
use Rattle.calls.proofs.Holds.{kept}

-- ---- an operation in the first part of an order stands before one in the rest
precedes_across : (x y : OpId) (xs ys : List OpId) → 1 ≤ times x xs → 1 ≤ times y ys → precedes x y (xs ++ ys) ≡ true
unfolding precedes times
precedes_across x y [] ys p q = absurd (omega arith)
precedes_across x y (z ∷ xs) ys p q = on (same x z) p (λ l. precedes_across x y xs ys l q)
  where
    on : (b : Bool) → 1 ≤ (if b then suc (times x xs) else times x xs) → (1 ≤ times x xs → precedes x y (xs ++ ys) ≡ true)
        → (b && ltb 0 (times y (xs ++ ys))) || precedes x y (xs ++ ys) ≡ true
    on true l ih = rw (lt-ltb 0 (times y (xs ++ ys)) (omega (arith, times_append y xs ys)))
    on false l ih = ih l

-- ---- a finished operation's response is what its answer record says, and an unfinished one has none
finishing_some : (x : OpId) (h : List Event) → is_finished x h ≡ true → 1 ≤ times x (finishing h)
unfolding finishing is_finished is_finish times
finishing_some x [] e = absurd (false≢true e)
finishing_some x (opens y o ∷ h) e = finishing_some x h e
finishing_some x (moves y helped ∷ h) e = finishing_some x h e
finishing_some x (finishes y ∷ h) e = on (same x y) e (finishing_some x h)
  where
    on : (b : Bool) → b || is_finished x h ≡ true → (is_finished x h ≡ true → 1 ≤ times x (finishing h))
        → 1 ≤ (if b then suc (times x (finishing h)) else times x (finishing h))
    on true e ih = omega arith
    on false e ih = ih e

finishing_none : (x : OpId) (h : List Event) → is_finished x h ≡ false → times x (finishing h) ≡ 0
unfolding finishing is_finished is_finish times
finishing_none x [] e = refl
finishing_none x (opens y o ∷ h) e = finishing_none x h e
finishing_none x (moves y helped ∷ h) e = finishing_none x h e
finishing_none x (finishes y ∷ h) e = let u = or-false (same x y) (is_finished x h) e in rw u.0 (finishing_none x h u.1)

response_none : (s : Shape) (t : List ℕ) (h : List Event) (x : OpId) (xs : List OpId) → times x xs ≡ 0 → response (map (queue_record s t h) xs) x ≡ Nothing
unfolding response queue_record operation times
response_none s t h x [] l = refl
response_none s t h x (y ∷ xs) l = on (same x y) l (response_none s t h x xs)
  where
    r : Reply
    r = response (map (queue_record s t h) xs) x

    on : (b : Bool) → (if b then suc (times x xs) else times x xs) ≡ 0 → (times x xs ≡ 0 → r ≡ Nothing)
        → (if b then queue_answer h y [] (root_operations s t) else r) ≡ Nothing
    on true l ih = absurd (omega arith)
    on false l ih = ih l

response_of : (s : Shape) (t : List ℕ) (h : List Event) (x : OpId) (xs : List OpId) → 1 ≤ times x xs
    → response (map (queue_record s t h) xs) x ≡ queue_answer h x [] (root_operations s t)
unfolding response queue_record operation times
response_of s t h x [] l = absurd (omega arith)
response_of s t h x (y ∷ xs) l = on (same x y) refl l (response_of s t h x xs)
  where
    answer : OpId → Reply
    answer z = queue_answer h z [] (root_operations s t)

    r : Reply
    r = response (map (queue_record s t h) xs) x

    on : (b : Bool) → same x y ≡ b → 1 ≤ (if b then suc (times x xs) else times x xs) → (1 ≤ times x xs → r ≡ answer x)
        → (if b then answer y else r) ≡ answer x
    on true e l ih = ap answer (sym (same_eq x y e))
    on false e l ih = ih l

module _ {s : Shape} {m : Machine} {c : ℕ → ℕ} {h : List Event} {log : List AnswerRecord} (ag : Agrees s m c h log) (tall : 1 ≤ s.height) where
  abbrev mem : Memory
  mem = m.memory

  abbrev t : List ℕ
  t = m.memory.table

  sound : Sound s m.memory
  sound = ag.invariant.sound

  holds : QueuePromises s h (log_bytes log) m.memory.table
  holds = kept ag tall

  -- ---- the root order, cut after a root block
  module _ (cut : ℕ) (within : cut ≤ last_root s t) where
    abbrev up_to : List OpId
    up_to = ops_of (flat_map (block_order s t) (between 0 cut))

    abbrev past : List OpId
    past = ops_of (flat_map (block_order s t) (between cut (last_root s t)))

    order_cut : root_operations s t ≡ up_to ++ past
    unfolding root_operations root_order
    order_cut =
        ap ops_of (gather_split (block_order s t) 0 cut (last_root s t) (omega arith) within)
        ∙ ops_append (flat_map (block_order s t) (between 0 cut)) (flat_map (block_order s t) (between cut (last_root s t)))

    -- the blocks up to the cut hold an operation that they reach once, and no other
    upto_reached : (x : OpId) → x.process < processes s → 1 ≤ x.serial → x.serial ≤ reached s mem x.process cut → times x up_to ≡ 1
    upto_reached x kp f l =
        let has : Present s mem (leaf_of s x.process) x.serial = reached_present s mem sound tall x.process kp cut (root_written s mem sound cut within) x.serial f l in
        omega (arith, order_times s t x (between 0 cut), one Puts, one Takes, kinds_one s mem sound x.process kp x.serial f has)
      where
        one : (κ : Kind) → times x (flat_map (in_root s t κ) (between 0 cut)) ≡ mark (of_kind s mem κ x.process x.serial)
        one κ = kind_count s mem sound κ x kp cut within ∙ rw (le-leb x.serial (reached s mem x.process cut) l)

    upto_unreached : (x : OpId) → x.process < processes s → reached s mem x.process cut < x.serial → times x up_to ≡ 0
    upto_unreached x kp l = omega (arith, order_times s t x (between 0 cut), none Puts, none Takes)
      where
        none : (κ : Kind) → times x (flat_map (in_root s t κ) (between 0 cut)) ≡ 0
        none κ = kind_count s mem sound κ x kp cut within ∙ rw (lt-leb x.serial (reached s mem x.process cut) l)

  -- what finished before another began is up to the cut, and the other past it
  keeps_order_lem : (x y : OpId) → Before s mem x y → 1 ≤ times x (root_operations s t) → 1 ≤ times y (root_operations s t) → precedes x y (root_operations s t) ≡ true
  keeps_order_lem x y e p q =
      let one : times x (up_to e.cut e.within) ≡ 1 = upto_reached e.cut e.within x e.first_process (stands_found s mem sound x p).first e.first in
      let none : times y (up_to e.cut e.within) ≡ 0 = upto_unreached e.cut e.within y e.second_process e.second in
      ap (precedes x y) (order_cut e.cut e.within)
      ∙ precedes_across x y (up_to e.cut e.within) (past e.cut e.within) (omega arith)
      (omega (arith, ap (times y) (order_cut e.cut e.within), times_append y (up_to e.cut e.within) (past e.cut e.within)))

  pub answered : (x : OpId) → is_finished x h ≡ true → response log x ≡ queue_answer h x [] (root_operations s m.memory.table)
  answered x e = ap (λ (l : List AnswerRecord). response l x) ag.answers ∙ response_of s t h x (finishing h) (finishing_some x h e)

  pub unanswered : (x : OpId) → is_finished x h ≡ false → response log x ≡ Nothing
  unanswered x e = ap (λ (l : List AnswerRecord). response l x) ag.answers ∙ response_none s t h x (finishing h) (finishing_none x h e)

  names : (xs : List OpId) → map (λ (a : AnswerRecord). operation a.process a.serial) (map (queue_record s t h) xs) ≡ xs
  unfolding queue_record operation
  names [] = refl
  names (x ∷ xs) = ap {B = List OpId} (λ r. x ∷ r) (names xs)

  pub linearizable : Linearizable h log
  linearizable =
      record {
        told = ap (map (λ (a : AnswerRecord). operation a.process a.serial)) ag.answers ∙ names (finishing h);
        order = root_operations s t;
        responded = holds.finished_once;
        once = holds.at_most_once;
        invoked = holds.nothing_else;
        legal = answered;
        keeps_order = λ x y e. keeps_order_lem x y (ag.before x y e);
      }
