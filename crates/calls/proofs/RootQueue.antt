-- The plain queue fed the root order: after each root block it holds the values of the last puts, as many as the
-- block's size.
use Prim.Native.Nat.{ℕ, zero, suc, ◌+◌, ◌-◌, ◌≤◌, ◌<◌}
use native.Mathlib.Omega.{arith}
use native.Mathlib.Nat.{le_refl}
use native.Mathlib.Decide.{dec_le}
use mathlib.Core.Path.{◌≡◌, refl, ap, sym, ◌∙◌}
use mathlib.Core.List.{List, [], ◌++◌, map, flat_map, map-append}
use lib.ListN.{length, drop, length-map, length-drop, drop_of_length-le}
use lib.Seq.{drop-drop, drop-nil, drop-append-le}
use Rattle.base.specs.Between.{between}
use Rattle.base.specs.Members.{All}
use Rattle.base.proofs.Gather.{gather_none, gather_last}
use Rattle.tree.specs.declared.Block.{Block}
use Rattle.tree.specs.declared.Kind.TheVariants.{Puts, Takes}
use Rattle.tree.specs.Shape.{Shape, root}
use Rattle.tree.specs.Memory.{Memory, block}
use Rattle.tree.specs.Size.{root_size}
use Rattle.tree.specs.Order.{OpId, total, in_root, last_root, block_order, root_order, root_operations}
use Rattle.tree.specs.Clauses.Invariant.{Present, Sound, zeros}
use Rattle.tree.proofs.Sound.{first_zeros}
use Rattle.tree.proofs.Levels.{root_inner}
use Rattle.tree.proofs.LastRoot.{root_sound, root_present, root_length, order_length, all_in_root}
use Rattle.tree.proofs.Operations.{ops_of, ops_append, block_operations}
use Rattle.steps.specs.declared.Operation.{Operation}
use Rattle.steps.specs.declared.Operation.TheVariants.{Put, Take}
use Rattle.calls.specs.History.{Event, operation, does}
use Rattle.calls.specs.Answer.{value_of}
use Rattle.calls.specs.Demand3.{queue_after}
use Rattle.calls.proofs.Leaves.{IsBlockOf, LeavesAre}
use Rattle.calls.proofs.Feeding.{queue_append, queue_puts, queue_takes}

-- ---- what the operations of a root block do

-- a leaf's block that adds a put is that of a put of its value; one that adds a take is that of a take
put_block_lem : (o : Operation) (b c : Block) → IsBlockOf o b c → b.puts < c.puts → o ≡ Put c.left
put_block_lem (Put x) b c e l = ap Put (sym e.2)
put_block_lem Take b c e l = absurd (omega (arith, e.0))

take_block_lem : (o : Operation) (b c : Block) → IsBlockOf o b c → b.takes < c.takes → o ≡ Take
take_block_lem (Put x) b c e l = absurd (omega (arith, e.1))
take_block_lem Take b c e l = refl

module _ (s : Shape) (m : Memory) (sound : Sound s m) (h : List Event) (leaves : LeavesAre s m h) where
  pub puts_all : (b : ℕ) → Present s m root (suc b) → All (λ x. does x h ≡ Put (value_of s m.table x)) (in_root s m.table Puts (suc b))
  unfolding total value_of block operation
  puts_all = all_in_root s m sound Puts (λ x. does x h ≡ Put (value_of s m.table x)) (λ k kp i f l. put_block_lem _ _ _ (leaves k kp i f) l)

  pub takes_all : (b : ℕ) → Present s m root (suc b) → All (λ x. does x h ≡ Take) (in_root s m.table Takes (suc b))
  unfolding total operation
  takes_all = all_in_root s m sound Takes (λ x. does x h ≡ Take) (λ k kp i f l. take_block_lem _ _ _ (leaves k kp i f) l)

-- ---- the values of the puts of the first b root blocks, in root order

abbrev pub values : Shape → List ℕ → ℕ → List ℕ
values s t b = map (value_of s t) (flat_map (in_root s t Puts) (between 0 b))

values_last : (s : Shape) (t : List ℕ) (b : ℕ) → values s t (suc b) ≡ values s t b ++ map (value_of s t) (in_root s t Puts (suc b))
values_last s t b =
    ap (map (value_of s t)) (gather_last (in_root s t Puts) 0 b (omega arith))
    ∙ map-append (value_of s t) (flat_map (in_root s t Puts) (between 0 b)) (in_root s t Puts (suc b))

pub values_length : (s : Shape) (m : Memory) → Sound s m → (b : ℕ) → b ≤ last_root s m.table → length (values s m.table b) ≡ (block s m root b).puts
unfolding total
values_length s m sound b l =
    length-map (flat_map (in_root s m.table Puts) (between 0 b)) (value_of s m.table) ∙ order_length s m sound Puts b l

-- ---- how many of these are out again after the takes of the first b root blocks

abbrev pub gone : Shape → Memory → ℕ → ℕ
gone s m b = (block s m root b).puts - (block s m root b).size

module _ (s : Shape) (m : Memory) (sound : Sound s m) (tall : 1 ≤ s.height) where
  size_rule : (b : ℕ) → Present s m root (suc b) → (block s m root (suc b)).size ≡ root_size (block s m root b) (block s m root (suc b)).puts (block s m root (suc b)).takes
  unfolding root
  size_rule b f = (sound.joins root (root_inner s tall) b f).sized

  pub size_within : (b : ℕ) → b ≤ last_root s m.table → (block s m root b).size ≤ (block s m root b).puts
  unfolding root_size total zeros
  size_within zero l = rw (first_zeros (root_sound s m sound)) (le_refl _)
  size_within (suc b) l =
      let f : Present s m root (suc b) = root_present s m sound b l in
      omega (arith, size_within b (omega arith), size_rule b f, ((root_sound s m sound).follows b f).rises Puts)

  -- each take of block b + 1 takes one out, or none once all are out
  gone_drop : (b : ℕ) → b < last_root s m.table
      → drop (gone s m b + length (in_root s m.table Takes (suc b))) (values s m.table (suc b)) ≡ drop (gone s m (suc b)) (values s m.table (suc b))
  unfolding root_size total
  gone_drop b l =
      let f : Present s m root (suc b) = root_present s m sound b l in
      on (((root_sound s m sound).follows b f).rises Puts) (root_length s m sound Takes b f) (size_rule b f) (size_within b (omega arith)) (values_length s m sound (suc b) l)
      (dec_le (length (in_root s m.table Takes (suc b))) (x.size + (y.puts - x.puts)))
    where
      x : Block
      x = block s m root b

      y : Block
      y = block s m root (suc b)

      n : ℕ
      n = length (in_root s m.table Takes (suc b))

      on : x.puts ≤ y.puts → n + x.takes ≡ y.takes → y.size ≡ x.size + (y.puts - x.puts) - (y.takes - x.takes) → x.size ≤ x.puts
          → length (values s m.table (suc b)) ≡ y.puts → Dec (n ≤ x.size + (y.puts - x.puts))
          → drop (x.puts - x.size + n) (values s m.table (suc b)) ≡ drop (y.puts - y.size) (values s m.table (suc b))
      on rises took rule low len (yes some) =
          let e : x.puts - x.size + n ≡ y.puts - y.size = omega arith in
          ap (λ (j : ℕ). drop j (values s m.table (suc b))) e
      on rises took rule low len (no none) =
          drop_of_length-le (values s m.table (suc b)) {i = x.puts - x.size + n} (omega arith)
          ∙ sym (drop_of_length-le (values s m.table (suc b)) {i = y.puts - y.size} (omega arith))

-- ---- the queue
module _ (s : Shape) (m : Memory) (sound : Sound s m) (h : List Event) (leaves : LeavesAre s m h) (tall : 1 ≤ s.height) where
  abbrev t : List ℕ
  t = m.table

  -- with the puts of block b + 1
  pub queue_with_puts : (b : ℕ) → b < last_root s m.table
      → queue_after h (drop (gone s m b) (values s m.table b)) (in_root s m.table Puts (suc b)) ≡ drop (gone s m b) (values s m.table (suc b))
  queue_with_puts b l =
      queue_puts h (value_of s t) (drop (gone s m b) (values s t b)) (in_root s t Puts (suc b)) (puts_all s m sound h leaves b (root_present s m sound b l))
      ∙ sym (drop-append-le (gone s m b) (values s t b) (map (value_of s t) (in_root s t Puts (suc b))) (omega (arith, values_length s m sound b (omega arith))))
      ∙ ap (drop (gone s m b)) (sym (values_last s t b))

  -- and then its takes
  queue_block : (b : ℕ) → b < last_root s t → queue_after h (drop (gone s m b) (values s t b)) (ops_of (block_order s t (suc b))) ≡ drop (gone s m (suc b)) (values s t (suc b))
  queue_block b l =
      let q : List ℕ = drop (gone s m b) (values s t b) in
      let xs : List OpId = in_root s t Takes (suc b) in
      ap (queue_after h q) (block_operations s t (suc b))
      ∙ queue_append h q (in_root s t Puts (suc b)) xs
      ∙ ap (λ (c : List ℕ). queue_after h c xs) (queue_with_puts b l)
      ∙ queue_takes h (drop (gone s m b) (values s t (suc b))) xs (takes_all s m sound h leaves b (root_present s m sound b l))
      ∙ drop-drop (length xs) (gone s m b) (values s t (suc b))
      ∙ gone_drop s m sound tall b l

  -- after the first b root blocks it holds the values of their puts in root order, but for the first puts − size
  pub queue_root : (b : ℕ) → b ≤ last_root s m.table
      → queue_after h [] (ops_of (flat_map (block_order s m.table) (between 0 b))) ≡ drop (gone s m b) (values s m.table b)
  unfolding queue_after
  queue_root zero l =
      ap (λ l. queue_after h [] (ops_of l)) (gather_none (block_order s t) 0)
      ∙ sym (ap (λ l. drop (gone s m 0) (map (value_of s t) l)) (gather_none (in_root s t Puts) 0) ∙ drop-nil (gone s m 0))
  queue_root (suc b) l =
      let before = flat_map (block_order s t) (between 0 b) in
      ap (λ l. queue_after h [] (ops_of l)) (gather_last (block_order s t) 0 b (omega arith))
      ∙ ap (queue_after h []) (ops_append before (block_order s t (suc b)))
      ∙ queue_append h [] (ops_of before) (ops_of (block_order s t (suc b)))
      ∙ ap (λ (c : List ℕ). queue_after h c (ops_of (block_order s t (suc b)))) (queue_root b (omega arith))
      ∙ queue_block b l

  -- so the last root block's size is the queue's length
  pub queue_length : length (queue_after h [] (root_operations s m.table)) ≡ (block s m root (last_root s m.table)).size
  unfolding root_operations root_order
  queue_length =
      let n : ℕ = last_root s t in
      ap length (queue_root n (le_refl _))
      ∙ length-drop (gone s m n) (values s t n)
      ∙ omega (arith, values_length s m sound n (le_refl _), size_within s m sound tall n (le_refl _))
