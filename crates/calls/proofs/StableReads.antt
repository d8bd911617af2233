-- What C3L, C3R, C3N and Q read can no longer change, save super: of every run without refusal and of every
-- continuation without refusal, for general H.
use Prim.Native.Nat.{ℕ, suc, ◌-◌, ◌≤◌, ◌<◌}
use native.Mathlib.Omega.{arith}
use native.Mathlib.Nat.{le_refl}
use native.Mathlib.Decide.{dec_lt}
use mathlib.Core.Path.{◌≡◌, refl, ap, sym, ◌∙◌, subst}
use mathlib.Core.Bool.{true}
use mathlib.Core.List.{List, ◌++◌}
use lib.ListN.{length}
use Rattle.record.specs.declared.StepRecord.{StepRecord}
use Rattle.tree.specs.declared.Block.{Block}
use Rattle.tree.specs.Shape.{Shape, processes, root}
use Rattle.tree.specs.Memory.{Memory, head_of, block}
use Rattle.tree.specs.Order.{OpId, last_root, root_operations}
use Rattle.tree.specs.Sides.{Side, child_of, end_of}
use Rattle.tree.specs.Standing.{times, root_block_of}
use Rattle.tree.specs.Clauses.Invariant.{Node, Inner, Sound}
use Rattle.tree.proofs.Nodes.{inner_node}
use Rattle.tree.proofs.Sound.{below_head, end_below}
use Rattle.tree.proofs.LastRoot.{root_written}
use Rattle.tree.proofs.Reached.{reached, reached_rises}
use Rattle.tree.proofs.RootBlock.{root_block_lem}
use Rattle.tree.proofs.Growth.{Same}
use Rattle.tree.proofs.Later.{Later}
use Rattle.tree.proofs.Once.{Found, stands_once, in_block}
use Rattle.tree.proofs.OrderGrows.{root_block_grows, reached_grows}
use Rattle.steps.specs.declared.Operation.{Operation}
use Rattle.steps.specs.declared.Status.{Status}
use Rattle.steps.specs.declared.Status.TheVariants.{Busy}
use Rattle.steps.specs.declared.Step.{Step}
use Rattle.steps.specs.declared.Step.TheVariants.{C3L, C3R, C3N, Q}
use Rattle.steps.specs.Machine.{Machine, process_of, is_q}
use Rattle.steps.proofs.Stages.{stage, stage_of}
use Rattle.steps.proofs.Progress.{Rooted, Carried}
use Rattle.steps.proofs.Invariant.{holding}
use Rattle.calls.specs.Answer.{reply_of}
use Rattle.calls.specs.Refusals.{accepted}
use Rattle.calls.specs.Numbered.{Numbered, numbered_after, numbered}
use Rattle.calls.specs.Run.{play}
use Rattle.calls.specs.History.{Event, operation, begun_by, machine_after, history, does}
use Rattle.calls.specs.StableReads.{EqualSaveSuper, StableReads}
use Rattle.calls.proofs.Numbers.{numbered_append}
use Rattle.calls.proofs.Legal.{Legal, answers_along}
use Rattle.calls.proofs.Histories.{history_append}
use Rattle.calls.proofs.Prefixes.{legal_prefix}
use Rattle.calls.proofs.Leaves.{LeavesAre}
use Rattle.calls.proofs.Events.{does_kept}
use Rattle.calls.proofs.RecordsStay.{opened_yes, answer_kept}
use Rattle.calls.proofs.RootAnswers.{reply_is}
use Rattle.calls.proofs.AfterStep.{StepTaken, mine, rooted}
use Rattle.calls.proofs.Runs.{Run, runs, later_run}
use Rattle.calls.proofs.NumbersStay.{number_stays}
use Rattle.calls.proofs.Played.{whole_legal, whole_machine}

equal_save_super : {x y : Block} → Same x y → x.number ≡ y.number → EqualSaveSuper x y
equal_save_super e f = record { puts = e.puts; takes = e.takes; left = e.left; right = e.right; size = e.size; number = f }

module _ (s : Shape) (tall : 1 ≤ s.height) (ns ts : List Numbered) (legal : Legal s (ns ++ ts)) (k : ℕ) (kp : k < processes s) where
  abbrev m : Machine
  m = machine_after s ns

  abbrev n : Machine
  n = machine_after s (ns ++ ts)

  now : Run s ns
  now = runs s tall (legal_prefix s ns ts legal)

  then : Run s (ns ++ ts)
  then = runs s tall legal

  later : Later s m.memory n.memory
  later = later_run s tall ns ts legal

  abbrev sound : Sound s m.memory
  sound = now.invariant.sound

  -- ---- a block below a head
  stays : (v i : ℕ) → Node s v → i < head_of m.memory v → EqualSaveSuper (block s n.memory v i) (block s m.memory v i)
  stays v i nv h =
      let p = below_head (sound.node v nv) i h in equal_save_super (later.stays v i nv p) (number_stays s tall ns ts legal v i nv p)

  -- its ends are below heads
  ends : (v i : ℕ) → Inner s v → i < head_of m.memory v → (d : Side) → end_of d (block s m.memory v i) < head_of m.memory (child_of d v)
  ends v i iv h d = end_below sound d v iv i (below_head (sound.node v (inner_node s v iv)) i h)

  -- how far process k has come at its step, which says what C3L, C3R and C3N read below heads
  come : (o : Operation) (x : Step) → (process_of m k).status ≡ Busy o x → Carried s m.memory (holding m) k (process_of m k).begun (stage x)
  come o x at = subst (λ (y : Status). Carried s m.memory (holding m) k (process_of m k).begun (stage_of y)) at (now.invariant.process k kp).carried

  -- ---- an operation that stands in the root
  module _ (o : Operation) (at : (process_of m k).status ≡ Busy o Q) where
    abbrev x : OpId
    x = record { process = k; serial = begun_by k (history s ns) }

    of_q : StepTaken s 0 m (λ j. begun_by j (history s ns)) (history s ns) (answers_along s ns) k o Q
    of_q = record { agrees = now; tall = tall; low = kp; busy = at }

    found : Found s m.memory x
    unfolding is_q
    found = rooted of_q refl

    -- it stands in both, in the same root block
    stands : (mem : Memory) → Sound s mem → Found s mem x → 1 ≤ times x (root_operations s mem.table)
    stands mem sound f = omega (arith, stands_once s mem sound x tall f.process f.first f.last)

    here : 1 ≤ times x (root_operations s m.memory.table)
    here = stands m.memory now.invariant.sound found

    there : 1 ≤ times x (root_operations s n.memory.table)
    there =
        stands n.memory then.invariant.sound
        (record {
          process = kp;
          first = found.first;
          last = omega (arith, found.last, reached_grows s m.memory n.memory now.invariant.sound then.invariant.sound later k kp);
        })

    -- the root blocks below the root's head reach it, and those before its own do not
    below_root_lem : root_block_of s m.memory.table x < head_of m.memory root
    below_root_lem =
        let r = root_block_lem s m.memory.table x here in
        let b = in_block s m.memory sound x (suc r.past) r.high r.here in
        on r.past (dec_lt (suc r.past) (head_of m.memory root)) r.is r.high b.past
      where
        reaches : Rooted s m.memory k (process_of m k).begun
        reaches = subst (λ (y : Status). Carried s m.memory (holding m) k (process_of m k).begun (stage_of y)) at (now.invariant.process k kp).carried

        on : (past : ℕ) → Dec (suc past < head_of m.memory root) → root_block_of s m.memory.table x ≡ suc past → past < last_root s m.memory.table
            → reached s m.memory k (suc past - 1) < x.serial → root_block_of s m.memory.table x < head_of m.memory root
        on past (yes l) e high low = omega arith
        on past (no l) e high low =
            absurd (omega (
              arith,
              reaches,
              now.counts k kp,
              reached_rises s m.memory sound k kp (head_of m.memory root - 1) (suc past - 1) (omega arith) (root_written s m.memory sound (suc past - 1) (omega arith)),
            ))

    same_block : root_block_of s n.memory.table x ≡ root_block_of s m.memory.table x
    same_block = root_block_grows s m.memory n.memory now.invariant.sound then.invariant.sound later x here

    -- in both the plain queue gives it the same answer, and that is its reply
    abbrev h : List Event
    h = history s ns

    abbrev more : List Event
    more = (history_append s ns ts).0

    does_now : does x h ≡ o
    unfolding operation
    does_now = (mine of_q).what

    does_then : does x (h ++ more) ≡ o
    does_then = does_kept x h more (opened_yes now tall x found.first (le_refl _)) ∙ does_now

    leaves_then : LeavesAre s n.memory (h ++ more)
    leaves_then = subst (LeavesAre s n.memory) (history_append s ns ts).1 then.leaves

    same_reply : reply_of s n.memory.table x o ≡ reply_of s m.memory.table x o
    same_reply =
        ap (reply_of s n.memory.table x) (sym does_then)
        ∙ sym (reply_is s n.memory then.invariant.sound (h ++ more) leaves_then tall x there)
        ∙ answer_kept now tall n.memory then.invariant.sound later more x here
        ∙ reply_is s m.memory now.invariant.sound h now.leaves tall x here
        ∙ ap (reply_of s m.memory.table x) does_now

  legal_stable : StableReads s m n k
  unfolding operation
  legal_stable =
      let serial : (process_of m k).begun ≡ begun_by k (history s ns) = now.counts k kp in
      record {
        stays = λ v i f l. stays v i (omega arith);
        opens = λ v i f l. ends v i (record { first = f; last = l });
        c3l = λ o w l r at. (come o (C3L w l r) at).hand.0.below;
        c3r = λ o w l r puts takes at. (come o (C3R w l r puts takes) at).hand.1.below;
        c3n = λ o w l r puts takes at. let re = (come o (C3N w l r puts takes) at).refreshing in omega (arith, re.first, re.last);
        q = λ o at. rw serial (omega (arith, (root_block_lem s m.memory.table (x o at) (here o at)).is), below_root_lem o at);
        root_block = λ o at. rw serial (same_block o at);
        reply = λ o at. rw serial (same_reply o at);
      }

-- of the machine after some records, and after more, where none is refused
pub stable_reads : (s : Shape) → 1 ≤ s.height → (room room' : ℕ) (rs ts : List StepRecord)
    → accepted (play s room rs).refusal ≡ true
    → accepted (play s room' (rs ++ ts)).refusal ≡ true
    → (k : ℕ) → k < processes s → StableReads s (play s room rs).machine (play s room' (rs ++ ts)).machine k
stable_reads s tall room room' rs ts ok ok' k kp =
    rw (whole_machine s room rs ok, whole_machine s room' (rs ++ ts) ok', numbered_append rs ts)
    (legal_stable s tall (numbered rs) (numbered_after (length rs) ts) (rw (numbered_append rs ts) at (whole_legal s room' (rs ++ ts) ok')) k kp)
