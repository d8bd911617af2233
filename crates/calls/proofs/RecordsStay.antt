-- The answer records of finished operations stay as the memory grows and events are added.
use Prim.Native.Nat.{ℕ, ◌≤◌, ◌<◌}
use native.Mathlib.Omega.{arith}
use mathlib.Core.Path.{◌≡◌, ap, ◌∙◌}
use mathlib.Core.Bool.{true}
use mathlib.Core.List.{List, [], ◌++◌, map}
use borrow.Author.Tests.{le-leb}
use Rattle.base.proofs.Members.{all_map}
use Rattle.record.specs.declared.AnswerRecord.{AnswerRecord}
use Rattle.tree.specs.Shape.{Shape, processes, leaf_of}
use Rattle.tree.specs.Memory.{Memory}
use Rattle.tree.specs.Order.{OpId, last_root, root_order, root_operations}
use Rattle.tree.specs.Standing.{times}
use Rattle.tree.specs.Clauses.Invariant.{Present, Sound}
use Rattle.tree.proofs.Later.{Later}
use Rattle.tree.proofs.LastRoot.{last_written}
use Rattle.tree.proofs.Operations.{ops_of, ops_append}
use Rattle.tree.proofs.Reached.{reached_present}
use Rattle.tree.proofs.Once.{Found, stands_once, stands_found}
use Rattle.tree.proofs.OrderGrows.{order_grows, root_block_grows}
use Rattle.steps.specs.Machine.{Machine, process_of}
use Rattle.steps.proofs.Leaf.{leaf_within}
use Rattle.steps.proofs.Invariant.{holding}
use Rattle.calls.specs.History.{Event, is_opened, is_finished}
use Rattle.calls.specs.Demand3.{queue_answer, queue_record, finishing}
use Rattle.calls.proofs.Feeding.{answer_in, answer_same}
use Rattle.calls.proofs.OwnCounts.{counts_of}
use Rattle.calls.proofs.Agrees.{Agrees}
use Rattle.calls.proofs.Events.{does_kept, finishing_all, all_times, map_same}

module _ {s : Shape} {m : Machine} {c : ℕ → ℕ} {h : List Event} {log : List AnswerRecord} (ag : Agrees s m c h log) (tall : 1 ≤ s.height) where
  sound : Sound s m.memory
  sound = ag.invariant.sound

  -- a leaf's present place is an operation's, and so is what stands in the root
  pub leaf_begun : (k : ℕ) → k < processes s → (i : ℕ) → Present s m.memory (leaf_of s k) i → i ≤ c k
  leaf_begun k kp i f = omega (arith, leaf_within s m.memory k (process_of m k).begun (holding m k) (ag.invariant.process k kp).leaf i f, ag.counts k kp)

  pub opened_yes : (x : OpId) → 1 ≤ x.serial → x.serial ≤ c x.process → is_opened x h ≡ true
  opened_yes x a b = ag.opened x ∙ rw (le-leb 1 x.serial a, le-leb x.serial (c x.process) b)

  pub standing_opened : (x : OpId) → 1 ≤ times x (root_operations s m.memory.table) → is_opened x h ≡ true
  standing_opened x l =
      let f : Found s m.memory x = stands_found s m.memory sound x l in
      opened_yes x f.first
      (leaf_begun x.process f.process x.serial
      (reached_present s m.memory sound tall x.process f.process (last_root s m.memory.table) (last_written s m.memory sound) x.serial f.first f.last))

  pub finished_stands : (x : OpId) → is_finished x h ≡ true → times x (root_operations s m.memory.table) ≡ 1
  finished_stands x e =
      let f : Found s m.memory x = ag.finished x e in stands_once s m.memory sound x tall f.process f.first f.last

  -- a later memory n, and more events
  module _ (n : Memory) (sn : Sound s n) (later : Later s m.memory n) (more : List Event) where
    pub answer_kept : (x : OpId) → 1 ≤ times x (root_operations s m.memory.table)
        → queue_answer (h ++ more) x [] (root_operations s n.table) ≡ queue_answer h x [] (root_operations s m.memory.table)
    unfolding root_operations
    answer_kept x l =
        ap (queue_answer (h ++ more) x []) (ap ops_of (order_grows s m.memory n sound sn later) ∙ ops_append (root_order s m.memory.table) _)
        ∙ answer_in (h ++ more) x [] (ops_of (root_order s m.memory.table)) _ l
        ∙ answer_same (h ++ more) h x [] (ops_of (root_order s m.memory.table)) (all_times (ops_of (root_order s m.memory.table)) (λ y q. does_kept y h more (standing_opened y q)))

    module _ (still : (x : OpId) → is_finished x h ≡ true → counts_of x (h ++ more) ≡ counts_of x h) where
      record_kept : (x : OpId) → is_finished x h ≡ true → queue_record s n.table (h ++ more) x ≡ queue_record s m.memory.table h x
      unfolding queue_record
      record_kept x e =
          λ i.
          record {
            process = x.process;
            reply = answer_kept x (omega (arith, finished_stands x e)) i;
            steps = (still x e i).steps;
            helps = (still x e i).helps;
            serial = x.serial;
            block = root_block_grows s m.memory n sound sn later x (omega (arith, finished_stands x e)) i;
          }

      pub records_kept : map (queue_record s n.table (h ++ more)) (finishing h) ≡ map (queue_record s m.memory.table h) (finishing h)
      records_kept =
          map_same (queue_record s n.table (h ++ more)) (queue_record s m.memory.table h) (finishing h) (all_map (finishing h) record_kept (finishing_all h))
