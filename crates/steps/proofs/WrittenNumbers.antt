-- What a step does to the numbers of blocks: what is written keeps its number, and what is new has that of the record.
use Prim.Native.Nat.{ℕ, ◌≤◌, ◌<◌}
use native.Mathlib.Omega.{arith}
use mathlib.Core.Path.{◌≡◌, refl, sym, subst}
use mathlib.Core.Logic.{◌⊎◌, inl, inr}
use Rattle.tree.specs.declared.Block.{Block}
use Rattle.tree.specs.Shape.{Shape, processes, leaf_of}
use Rattle.tree.specs.Memory.{Memory, head_of, block, write, with_super, set_super, raise}
use Rattle.tree.specs.Clauses.Invariant.{Node, count, Present, Written, Sized}
use Rattle.tree.proofs.Nodes.{leaf_node, inner_node}
use Rattle.tree.proofs.Presence.{absent_count}
use Rattle.tree.proofs.Writes.{write_cases}
use Rattle.steps.specs.declared.Operation.{Operation}
use Rattle.steps.specs.declared.Operation.TheVariants.{Put, Take}
use Rattle.steps.specs.declared.Built.{Built}
use Rattle.steps.specs.declared.Step.{Step}
use Rattle.steps.specs.declared.Status.TheVariants.{Busy}
use Rattle.steps.specs.Rules.{plus_operation, block_of}
use Rattle.steps.specs.Machine.{Machine, process_of, step_of}
use Rattle.steps.proofs.Stages.{Stage}
use Rattle.steps.proofs.Turns.{Turn, rests, adds, supers, raises, starts, assists, ends_left, ends_right, counts, makes, finds, writes, meets, finishes, turn}
use Rattle.steps.proofs.Progress.{OwnLeaf, Carried}
use Rattle.steps.proofs.Invariant.{Invariant, holding, refresh_inner}
use Rattle.steps.proofs.Keeps.{own, carried, stepped_memory}

-- from m to n, by the record with this number
pub record WritesNumber (s : Shape) (number : ℕ) (m n : Memory) : Type 0 where
  pub stays : (u i : ℕ) → Node s u → Written s m u i → (block s n u i).number ≡ (block s m u i).number
  pub fresh : (u i : ℕ) → Node s u → Present s n u i → Present s m u i ⊎ ((block s n u i).number ≡ number)

module _ (s : Shape) (number : ℕ) (m : Memory) where
  -- no block is written
  pub none_written : WritesNumber s number m m
  none_written = record { stays = λ u i nu p. refl; fresh = λ u i nu f. inl f }

  head_raised : (v h : ℕ) → WritesNumber s number m (raise m v h)
  unfolding raise block
  head_raised v h = record { stays = λ u i nu p. refl; fresh = λ u i nu f. inl f }

  module _ (sized : Sized s m) (v h : ℕ) (nv : Node s v) where
    -- a super is set: the block keeps its totals and its number
    super_set : (x : ℕ) → WritesNumber s number m (set_super s m v h x)
    unfolding set_super with_super
    super_set x =
        record {
          stays = λ u i nu p. write_cases s m v h _ sized nv (λ (c : Block). c.number ≡ (block s m u i).number) u i (λ e f. rw (e, f)) refl;
          fresh =
              λ u i nu.
              write_cases s m v h _ sized nv (λ (c : Block). 1 ≤ count c → Present s m u i ⊎ (c.number ≡ number)) u i (λ e f l. inl (rw (e, f) l)) (λ l. inl l);
        }

    -- a block with the number is written where none is
    block_written : 1 ≤ h → count (block s m v h) ≡ 0 → (b : Block) → b.number ≡ number → WritesNumber s number m (write s m v h b)
    block_written first none b is =
        record {
          stays = λ u i nu p. write_cases s m v h b sized nv (λ (c : Block). c.number ≡ (block s m u i).number) u i (λ e f. absurd (no u i e f p)) refl;
          fresh = λ u i nu. write_cases s m v h b sized nv (λ (c : Block). 1 ≤ count c → Present s m u i ⊎ (c.number ≡ number)) u i (λ e f l. inr is) (λ l. inl l);
        }
      where
        no : (u i : ℕ) → u ≡ v → i ≡ h → Written s m u i → ⊥
        no u i e f (inl z) = omega arith
        no u i e f (inr z) = let q : Present s m v h = rw (e, f) at z in omega arith

-- the blocks that A and C4 write have the number
added_number : (number : ℕ) (o : Operation) (b : Block) → (plus_operation number o b).number ≡ number
unfolding plus_operation
added_number number (Put x) b = refl
added_number number Take b = refl

built_number : (number : ℕ) (n : Built) → (block_of number n).number ≡ number
unfolding block_of
built_number number n = refl

-- every turn
turn_number : (s : Shape) (number k : ℕ) → k < processes s → (o : Operation) (m : Memory) → Sized s m → (hold : ℕ → Stage) (b : ℕ) {x : Stage} {n : Memory} {y : Stage}
    → Turn s number k o m x n y → OwnLeaf s m k b x → Carried s m hold k b x → WritesNumber s number m n
turn_number s number k kp o m sized hold b (rests x) own p = none_written s number m
turn_number s number k kp o m sized hold b adds own p =
    block_written s number m sized (leaf_of s k) (head_of m (leaf_of s k)) (leaf_node s k kp) (omega (arith, own.some, own.head))
    (own.ends (head_of m (leaf_of s k)) (omega (arith, own.some, own.head))) _ (added_number number o _)
turn_number s number k kp o m sized hold b (supers w a v h z) own p = super_set s number m sized v h p.node z
turn_number s number k kp o m sized hold b (raises w a v h) own p = head_raised s number m v h
turn_number s number k kp o m sized hold b (starts v q) own p = none_written s number m
turn_number s number k kp o m sized hold b (assists w d c f) own p = none_written s number m
turn_number s number k kp o m sized hold b (ends_left w l f) own p = none_written s number m
turn_number s number k kp o m sized hold b (ends_right w l r f) own p = none_written s number m
turn_number s number k kp o m sized hold b (counts w l r x y f) own p = none_written s number m
turn_number s number k kp o m sized hold b (makes w l r puts takes f) own p = none_written s number m
turn_number s number k kp o m sized hold b (finds w l r puts takes f) own p = none_written s number m
turn_number s number k kp o m sized hold b (writes w c f) own p =
    block_written s number m sized w.node w.head (inner_node s w.node (refresh_inner s m hold k kp b w p.refreshing)) p.refreshing.first
    (absent_count (block s m w.node w.head) f) _ (built_number number c)
turn_number s number k kp o m sized hold b (meets w c f) own p = none_written s number m
turn_number s number k kp o m sized hold b finishes own p = none_written s number m

-- a step of a process of the machine
pub step_number : (s : Shape) → 1 ≤ s.height → (number : ℕ) (m : Machine) → (inv : Invariant s m) → (k : ℕ) → (kp : k < processes s) → (o : Operation) (n : Step)
    → (busy : (process_of m k).status ≡ Busy o n) → WritesNumber s number m.memory (step_of s number m k).memory
step_number s tall number m inv k kp o n busy =
    subst (WritesNumber s number m.memory) (sym (stepped_memory s tall number m inv k kp o n busy))
    (turn_number s number k kp o m.memory inv.sized (holding m) (process_of m k).begun (turn s number k o m.memory n) (own s tall number m inv k kp o n busy)
    (carried s tall number m inv k kp o n busy))
