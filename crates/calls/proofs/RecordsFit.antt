-- The operations that stand in the root order, and those that were answered, are among p × L; and the answer records
-- and order records of a run fit their bytes, so that they are read as they were written.
use Prim.Native.Nat.{ℕ, zero, suc, ◌+◌, ◌*◌, ◌^◌, ◌≤◌, ◌<◌}
use native.Mathlib.Omega.{arith}
use mathlib.Core.Path.{◌≡◌, ap, sym, subst}
use mathlib.Core.Logic.{inr}
use mathlib.Core.Bool.{true}
use mathlib.Core.List.{List, [], ◌∷◌, ◌++◌, map}
use lib.ListN.{length, get_or, take, drop}
use lib.IntN.{ℤ, pos, negsuc}
use Rattle.base.specs.Members.{All}
use Rattle.base.proofs.Members.{all_map, all_mapped, all_append}
use Rattle.base.proofs.Gather.{gather_all}
use Rattle.record.specs.declared.AnswerRecord.{AnswerRecord}
use Rattle.record.specs.AnswerRecords.{reply_value}
use Rattle.record.proofs.ReadBack.{Fitting, OrderFits}
use Rattle.tree.specs.declared.Kind.{Kind}
use Rattle.tree.specs.declared.Kind.TheVariants.{Puts, Takes}
use Rattle.tree.specs.Shape.{Shape, processes, root, leaf_of, last_place, height_of}
use Rattle.tree.specs.Layout.{block_words, part_words, part_start, part_of}
use Rattle.tree.specs.Memory.{Memory}
use Rattle.tree.specs.Blocks.{word_in, left_word, block_in, block_at}
use Rattle.tree.specs.Order.{OpId, in_root, last_root, placed, block_order, root_order, root_operations}
use Rattle.tree.specs.Standing.{times, stands_in}
use Rattle.tree.specs.Clauses.Invariant.{Present, Sound}
use Rattle.tree.proofs.Heights.{height_root, leaf_places}
use Rattle.tree.proofs.Places.{processes_most, places_most}
use Rattle.tree.proofs.Nodes.{leaf_node}
use Rattle.tree.proofs.Sound.{place_count}
use Rattle.tree.proofs.LastRoot.{root_sound, last_written}
use Rattle.tree.proofs.Reached.{reached_present}
use Rattle.tree.proofs.RootBlock.{root_block_lem, stands_some}
use Rattle.tree.proofs.Once.{Found, stands_found}
use Rattle.order.specs.OrderList.{kind_number, order_record, order_list}
use Rattle.order.proofs.RootRecords.{list_count}
use Rattle.steps.specs.declared.Operation.{Operation}
use Rattle.steps.specs.declared.Operation.TheVariants.{Put, Take}
use Rattle.steps.specs.Machine.{Machine}
use Rattle.calls.specs.Answer.{value_of, by_margin, take_reply, reply_of}
use Rattle.calls.specs.History.{Event, operation, is_finished, does}
use Rattle.calls.specs.Demand3.{queue_record, finishing, step_limit}
use Rattle.calls.proofs.OwnCounts.{helps_within}
use Rattle.calls.proofs.Events.{all_times, finishing_all}
use Rattle.calls.proofs.RootAnswers.{reply_is}
use Rattle.calls.proofs.RecordsStay.{finished_stands}
use Rattle.calls.proofs.Agrees.{Agrees}
use Rattle.calls.proofs.Holds.{kept}

-- ---- where each word of a table fits 32 bits, so does the value of a reply
drop_below : (b k j : ℕ) (t : List ℕ) → 0 < b → ((i : ℕ) → get_or t i 0 < b) → get_or (drop k t) j 0 < b
drop_below b zero j t h f = f j
drop_below b (suc k) j [] h f = h
drop_below b (suc k) j (x ∷ t) h f = drop_below b k j t h (λ i. f (suc i))

take_below : (b n j : ℕ) (t : List ℕ) → 0 < b → ((i : ℕ) → get_or t i 0 < b) → get_or (take n t) j 0 < b
take_below b zero j t h f = h
take_below b (suc n) j [] h f = h
take_below b (suc n) zero (x ∷ t) h f = f 0
take_below b (suc n) (suc j) (x ∷ t) h f = take_below b n j t h (λ i. f (suc i))

-- the first words of a longer table
pub first_below : (b : ℕ) (t rest : List ℕ) → 0 < b → ((i : ℕ) → get_or (t ++ rest) i 0 < b) → (i : ℕ) → get_or t i 0 < b
first_below b [] rest h f i = h
first_below b (x ∷ t) rest h f zero = f 0
first_below b (x ∷ t) rest h f (suc i) = first_below b t rest h (λ j. f (suc j)) i

module _ (s : Shape) (t : List ℕ) (fits : (i : ℕ) → get_or t i 0 < 2 ^ 32) where
  value_fits : (x : OpId) → value_of s t x < 2 ^ 32
  unfolding value_of block_at block_in word_in part_of
  value_fits x =
      let v : ℕ = leaf_of s x.process in
      take_below (2 ^ 32) (part_words s v) (block_words * x.serial + left_word) (drop (part_start s v) t) (omega arith)
      (λ i. drop_below (2 ^ 32) (part_start s v) i t (omega arith) fits)

  margin_fits : (z : ℤ) (v : ℕ) → v < 2 ^ 32 → reply_value (by_margin z v) < 2 ^ 32
  unfolding by_margin reply_value
  margin_fits (negsuc z) v h = omega arith
  margin_fits (pos z) v h = h

  reply_fits : (x : OpId) (o : Operation) → reply_value (reply_of s t x o) < 2 ^ 32
  unfolding reply_of take_reply reply_value
  reply_fits x (Put v) = omega arith
  reply_fits x Take = margin_fits _ _ (value_fits _)

-- ---- operations
-- x is one of the L operations of one of the p processes
pub record Named (s : Shape) (x : OpId) : Type 0 where
  pub process : x.process < processes s
  pub first : 1 ≤ x.serial
  pub last : x.serial ≤ s.most

module _ {s : Shape} {m : Machine} {c : ℕ → ℕ} {h : List Event} {log : List AnswerRecord} (ag : Agrees s m c h log) (tall : 1 ≤ s.height) where
  abbrev mem : Memory
  mem = m.memory

  abbrev t : List ℕ
  t = m.memory.table

  sound : Sound s m.memory
  sound = ag.invariant.sound

  standing_named : (x : OpId) → 1 ≤ times x (root_operations s t) → Named s x
  standing_named x l =
      let f : Found s mem x = stands_found s mem sound x l in
      let k : ℕ = x.process in
      let leaf = sound.node (leaf_of s k) (leaf_node s k f.process) in
      let has : Present s mem (leaf_of s k) x.serial = reached_present s mem sound tall k f.process (last_root s t) (last_written s mem sound) x.serial f.first f.last in
      record {
        process = f.process;
        first = f.first;
        last = omega (arith, place_count leaf x.serial (inr has), leaf.within x.serial, leaf_places s k f.process);
      }

  -- those of the root order, and how many they are
  pub order_named : All (Named s) (root_operations s m.memory.table)
  order_named = all_times (root_operations s t) standing_named

  root_places : last_place s root ≡ s.most * processes s
  unfolding last_place root height_of processes
  root_places = ap (λ (k : ℕ). s.most * 2 ^ k) (height_root s)

  pub order_few : length (order_list s m.memory.table) ≤ 8 * (s.most * processes s)
  order_few = omega (arith, list_count s mem sound, (root_sound s mem sound).within (last_root s t), root_places)

  -- those that were answered
  answered_named : All (Named s) (finishing h)
  answered_named = all_map (finishing h) (λ x e. standing_named x (omega (arith, finished_stands ag tall x e))) (finishing_all h)

  pub answers_named : All (λ (a : AnswerRecord). Named s (operation a.process a.serial)) log
  unfolding queue_record operation
  answers_named =
      subst (All (λ (a : AnswerRecord). Named s (operation a.process a.serial))) (sym ag.answers)
      (all_mapped _ (queue_record s t h) (finishing h) answered_named)

  -- ---- records
  module _ (low : s.height ≤ 3) (few : s.most ≤ 500) where
    last_low : last_root s t ≤ 4000
    last_low =
        omega (
          arith,
          place_count (root_sound s mem sound) (last_root s t) (last_written s mem sound),
          (root_sound s mem sound).within (last_root s t),
          places_most s low few root,
        )

    module _ (fits : (i : ℕ) → get_or m.memory.table i 0 < 2 ^ 32) where
      record_fits : (x : OpId) → is_finished x h ≡ true → Fitting (queue_record s t h x)
      unfolding queue_record step_limit
      record_fits x e =
          let l : 1 ≤ times x (root_operations s t) = omega (arith, finished_stands ag tall x e) in
          let n : Named s x = standing_named x l in
          let r = root_block_lem s t x l in
          record {
            process = omega (arith, n.process, processes_most s low);
            steps = omega (arith, (kept ag tall).steps_bounded x, low);
            helps = omega (arith, (kept ag tall).steps_bounded x, helps_within x h, low);
            value = rw (reply_is s mem sound h ag.leaves tall x l) (reply_fits s t fits x (does x h));
            serial = omega (arith, n.last, few);
            block = omega (arith, r.is, r.high, last_low);
          }

      pub answers_fit : All Fitting log
      answers_fit =
          subst (All Fitting) (sym ag.answers)
          (all_mapped Fitting (queue_record s t h) (finishing h) (all_map (finishing h) record_fits (finishing_all h)))

    order_fits : (κ : Kind) (b : ℕ) → b < last_root s t → (x : OpId) → Named s x → OrderFits (order_record (placed κ (suc b) x))
    unfolding order_record placed kind_number
    order_fits κ b l x n =
        record {
          process = omega (arith, n.process, processes_most s low);
          kind = kind_low κ;
          serial = omega (arith, n.last, few);
          block = omega (arith, l, last_low);
        }
      where
        kind_low : (κ : Kind) → kind_number κ < 2 ^ 8
        kind_low Puts = omega arith
        kind_low Takes = omega arith

    in_block : (κ : Kind) (b : ℕ) → b < last_root s t → All (λ x. OrderFits (order_record x)) (map (placed κ (suc b)) (in_root s t κ (suc b)))
    unfolding stands_in
    in_block κ b l =
        all_mapped (λ x. OrderFits (order_record x)) (placed κ (suc b)) (in_root s t κ (suc b))
        (all_times (in_root s t κ (suc b)) (λ x some. order_fits κ b l x (standing_named x (stands_some s t x b l (stands κ x some)))))
      where
        stands : (κ : Kind) (x : OpId) → 1 ≤ times x (in_root s t κ (suc b)) → 1 ≤ times x (in_root s t Puts (suc b)) + times x (in_root s t Takes (suc b))
        stands Puts x some = omega arith
        stands Takes x some = omega arith

    pub orders_fit : All (λ x. OrderFits (order_record x)) (root_order s m.memory.table)
    unfolding root_order block_order
    orders_fit =
        gather_all (λ x. OrderFits (order_record x)) (block_order s t) 0 (last_root s t) (omega arith)
        (λ b p l. all_append _ (map (placed Puts (suc b)) (in_root s t Puts (suc b))) (map (placed Takes (suc b)) (in_root s t Takes (suc b))) (in_block Puts b l) (in_block Takes b l))
