-- The plain queue fed the root order answers each operation that stands there as the tree's answer rule does.
use Rattle.std.specs.Prelude.{if◌then◌else◌}
use Prim.Native.Nat.{ℕ, suc, ◌+◌, ◌-◌, ◌≤◌, ◌<◌}
use native.Mathlib.Omega.{arith}
use native.Mathlib.Decide.{dec_lt}
use mathlib.Core.Path.{◌≡◌, refl, ap, sym, ◌∙◌, subst}
use mathlib.Core.Bool.{Bool, true, false}
use mathlib.Core.List.{List, [], ◌∷◌, ◌++◌, flat_map}
use lib.ListN.{length, get_or, drop, get_or-append, get_or-map}
use lib.Seq.{drop-drop}
use lib.IntN.{pos, ◌-ℤ◌}
use borrow.Author.Tests.{lt-ltb, le-ltb}
use Rattle.base.specs.Between.{between}
use Rattle.base.specs.Members.{All}
use Rattle.base.proofs.Gather.{gather_split, gather_at}
use Rattle.record.specs.declared.Reply.TheVariants.{Value, Nothing}
use Rattle.tree.specs.declared.Block.{Block}
use Rattle.tree.specs.declared.Kind.TheVariants.{Puts, Takes}
use Rattle.tree.specs.Shape.{Shape, root}
use Rattle.tree.specs.Memory.{Memory, block}
use Rattle.tree.specs.Order.{OpId, total, in_root, last_root, Placed, block_order, root_order, root_operations, root_puts}
use Rattle.tree.specs.Standing.{same, times, stands_in, root_block_of, rank_in}
use Rattle.tree.specs.Clauses.Invariant.{Sound}
use Rattle.tree.proofs.Names.{same_eq, rank_some}
use Rattle.tree.proofs.LastRoot.{root_sound, root_present, order_length}
use Rattle.tree.proofs.Operations.{ops_of, ops_append, block_operations, block_times, order_times}
use Rattle.tree.proofs.RootBlock.{RootBlock, root_block_lem}
use Rattle.steps.specs.declared.Operation.{Operation}
use Rattle.steps.specs.declared.Operation.TheVariants.{Put, Take}
use Rattle.calls.specs.History.{Event, does}
use Rattle.calls.specs.PlainQueue.{answers}
use Rattle.calls.specs.Answer.{margin, put_number, value_of, by_margin, take_reply, reply_of}
use Rattle.calls.specs.Demand3.{queue_answer}
use Rattle.calls.proofs.Leaves.{LeavesAre}
use Rattle.calls.proofs.Feeding.{answer_past, answer_in, answer_put, answer_take, take_some, take_none}
use Rattle.calls.proofs.RootQueue.{puts_all, takes_all, values, values_length, gone, size_within, queue_with_puts, queue_root}

-- what holds of all in a list holds of one that is there
times_all : (P : OpId → Type 0) (x : OpId) (ys : List OpId) → All P ys → 1 ≤ times x ys → P x
unfolding times
times_all P x [] a l = absurd (omega arith)
times_all P x (y ∷ ys) a l = on (same x y) refl l (times_all P x ys a.1)
  where
    on : (b : Bool) → same x y ≡ b → 1 ≤ (if b then suc (times x ys) else times x ys) → (1 ≤ times x ys → P x) → P x
    on true e l ih = subst P (sym (same_eq x y e)) a.0
    on false e l ih = ih l

-- ---- by the margin, the take after i others of its block gets a value if the queue holds more than i

by_some : (n i v : ℕ) → i < n → by_margin (pos n -ℤ pos (suc i)) v ≡ Value v
unfolding by_margin
by_some n i v l = rw (le-ltb n (suc i) l)

by_none_lem : (n i v : ℕ) → n ≤ i → by_margin (pos n -ℤ pos (suc i)) v ≡ Nothing
unfolding by_margin
by_none_lem n i v l = rw (lt-ltb n (suc i) (omega arith))

module _ (s : Shape) (m : Memory) where
  abbrev t : List ℕ
  t = m.table

  -- ---- the answer rule, in terms of the values that the queue holds once the puts of the take's root block are in
  module _ (sound : Sound s m) (tall : 1 ≤ s.height) (b : ℕ) (l : b < last_root s t) where
    abbrev old : Block
    old = block s m root b

    abbrev new : Block
    new = block s m root (suc b)

    -- the puts of the root blocks up to this one, and of those after it
    abbrev upto : List OpId
    upto = flat_map (in_root s t Puts) (between 0 (suc b))

    abbrev past : List OpId
    past = flat_map (in_root s t Puts) (between (suc b) (last_root s t))

    abbrev no_op : OpId
    no_op = record { process = 0; serial = 0 }

    put_value : (n : ℕ) → n < length upto → value_of s t (get_or (root_puts s t) n no_op) ≡ get_or (values s t (suc b)) n (value_of s t no_op)
    unfolding root_puts
    put_value n h =
        ap (λ r. value_of s t (get_or r n no_op)) (gather_split (in_root s t Puts) 0 (suc b) (last_root s t) (omega arith) l)
        ∙ ap (value_of s t) (get_or-append upto past no_op n h)
        ∙ sym (get_or-map (value_of s t) upto n no_op)

    reply_drop : (i : ℕ) → take_reply s t (suc b) (suc i) ≡ answers Take (drop (gone s m b + i) (values s t (suc b)))
    unfolding take_reply margin block put_number total
    reply_drop i =
        let e : suc b - 1 ≡ b = omega arith in
        rw e
        (on (size_within s m sound tall b (omega arith)) (((root_sound s m sound).follows b (root_present s m sound b l)).rises Puts)
        (values_length s m sound (suc b) l) (order_length s m sound Puts (suc b) l) (dec_lt (gone s m b + i) new.puts))
      where
        on : old.size ≤ old.puts → old.puts ≤ new.puts → length (values s t (suc b)) ≡ new.puts → length upto ≡ new.puts → Dec (gone s m b + i < new.puts)
            → by_margin (pos (old.size + (new.puts - old.puts)) -ℤ pos (suc i)) (value_of s t (get_or (root_puts s t) (suc i + old.puts - old.size - 1) no_op))
            ≡ answers Take (drop (gone s m b + i) (values s t (suc b)))
        on low rises len puts (yes h) =
            let e : suc i + old.puts - old.size - 1 ≡ gone s m b + i = omega arith in
            by_some (old.size + (new.puts - old.puts)) i _ (omega arith)
            ∙ ap (λ (n : ℕ). Value (value_of s t (get_or (root_puts s t) n no_op))) e
            ∙ ap Value (put_value (gone s m b + i) (omega arith))
            ∙ sym (take_some (values s t (suc b)) (gone s m b + i) (value_of s t no_op) (omega arith))
        on low rises len puts (no h) =
            by_none_lem (old.size + (new.puts - old.puts)) i _ (omega arith) ∙ sym (take_none (values s t (suc b)) (gone s m b + i) (omega arith))

  -- ---- the answers
  module _ (sound : Sound s m) (h : List Event) (leaves : LeavesAre s m h) (tall : 1 ≤ s.height) (x : OpId) where
    module _ (take : does x h ≡ Take) where
      -- a take is not among the puts of a root block
      no_puts : (b : ℕ) → b < last_root s t → times x (in_root s t Puts (suc b)) ≡ 0
      no_puts b l = on (dec_lt 0 (times x (in_root s t Puts (suc b))))
        where
          on : Dec (0 < times x (in_root s t Puts (suc b))) → times x (in_root s t Puts (suc b)) ≡ 0
          on (yes k) =
              let put : does x h ≡ Put (value_of s t x) = times_all (λ z. does z h ≡ Put (value_of s t z)) x _ (puts_all s m sound h leaves b (root_present s m sound b l)) k in
              cc
          on (no k) = omega arith

      module _ (r : RootBlock s t x) where
        -- x's number among the takes of its root block
        abbrev rank : ℕ
        rank = rank_in x (in_root s t Takes (suc r.past))

        ranked : 1 ≤ rank
        unfolding stands_in
        ranked = rank_some x (in_root s t Takes (suc r.past)) (omega (arith, r.here, no_puts r.past r.high))

        in_block : queue_answer h x (drop (gone s m r.past) (values s t r.past)) (ops_of (block_order s t (suc r.past))) ≡ take_reply s t (suc r.past) rank
        in_block =
            let b : ℕ = r.past in
            let q : List ℕ = drop (gone s m b) (values s t b) in
            let e : suc (rank - 1) ≡ rank = omega (arith, ranked) in
            ap (queue_answer h x q) (block_operations s t (suc b))
            ∙ answer_past h x q (in_root s t Puts (suc b)) (in_root s t Takes (suc b)) (no_puts b r.high)
            ∙ ap (λ (c : List ℕ). queue_answer h x c (in_root s t Takes (suc b))) (queue_with_puts s m sound h leaves tall b r.high)
            ∙ answer_take h x (drop (gone s m b) (values s t (suc b))) (in_root s t Takes (suc b)) (takes_all s m sound h leaves b (root_present s m sound b r.high)) ranked
            ∙ ap (answers Take) (drop-drop (rank - 1) (gone s m b) (values s t (suc b)))
            ∙ sym (reply_drop sound tall b r.high (rank - 1))
            ∙ ap (take_reply s t (suc b)) e

        in_order_lem : queue_answer h x [] (root_operations s t) ≡ take_reply s t (suc r.past) rank
        unfolding root_operations root_order
        in_order_lem =
            let b : ℕ = r.past in
            let first : List Placed = flat_map (block_order s t) (between 0 b) in
            let here : List Placed = block_order s t (suc b) in
            let rest : List Placed = flat_map (block_order s t) (between (suc b) (last_root s t)) in
            ap (λ l. queue_answer h x [] (ops_of l)) (gather_at (block_order s t) 0 b (last_root s t) (omega arith) r.high)
            ∙ ap (queue_answer h x []) (ops_append first (here ++ rest) ∙ ap (λ l. ops_of first ++ l) (ops_append here rest))
            ∙ answer_past h x [] (ops_of first) (ops_of here ++ ops_of rest) (omega (arith, order_times s t x (between 0 b), r.before Puts, r.before Takes))
            ∙ ap (λ (c : List ℕ). queue_answer h x c (ops_of here ++ ops_of rest)) (queue_root s m sound h leaves tall b (omega (arith, r.high)))
            ∙ answer_in h x (drop (gone s m b) (values s t b)) (ops_of here) (ops_of rest) (omega (arith, block_times s t x (suc b), r.here))
            ∙ in_block

      pub take_answer : 1 ≤ times x (root_operations s m.table)
          → queue_answer h x [] (root_operations s m.table) ≡ take_reply s m.table (root_block_of s m.table x) (rank_in x (in_root s m.table Takes (root_block_of s m.table x)))
      take_answer l =
          let r = root_block_lem s t x l in
          in_order_lem r ∙ ap (λ (b : ℕ). take_reply s t b (rank_in x (in_root s t Takes b))) (sym r.is)

    -- the queue answers x as the answer rule does
    pub reply_is : 1 ≤ times x (root_operations s m.table) → queue_answer h x [] (root_operations s m.table) ≡ reply_of s m.table x (does x h)
    unfolding reply_of
    reply_is l = on (does x h) refl
      where
        on : (o : Operation) → does x h ≡ o → queue_answer h x [] (root_operations s t) ≡ reply_of s t x o
        on (Put v) e = answer_put h x v e [] (root_operations s t) l
        on Take e = take_answer e l
