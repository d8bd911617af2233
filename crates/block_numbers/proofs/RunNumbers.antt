-- The theorem: the numbers of the blocks that every run leaves tell which record wrote each, rise with place and are
-- above those of subblocks; for general H of every list of records, and of what Run leaves for every p, L, list of
-- bytes, table and answer buffer.
use Prim.Native.Nat.{ℕ, suc, ◌+◌, ◌-◌, ◌≤◌, ◌<◌}
use native.Mathlib.Omega.{arith}
use mathlib.Core.Path.{◌≡◌, sym, ◌∙◌, subst}
use mathlib.Core.Bool.{true}
use mathlib.Core.List.{List, [], ◌∷◌, ◌++◌, append-nil}
use lib.ListN.{length, take}
use lib.Seq.{append_snoc}
use Rattle.base.proofs.Members.{members_between}
use Rattle.record.specs.declared.StepRecord.{StepRecord}
use Rattle.record.specs.StepRecords.{step_records, step_record}
use Rattle.tree.specs.Shape.{Shape, root, shape_for}
use Rattle.tree.specs.Memory.{Memory, block}
use Rattle.tree.specs.Sides.{subblocks}
use Rattle.tree.specs.Clauses.Invariant.{Sound}
use Rattle.tree.proofs.Presence.{count_absent, present_count, count_present}
use Rattle.steps.specs.Machine.{Machine, start}
use Rattle.calls.specs.Numbered.{Numbered, next_after, numbered}
use Rattle.calls.specs.Refusals.{accepted, call_refusal}
use Rattle.calls.specs.Run.{play, run_played, run}
use Rattle.calls.specs.History.{course_start, course_after, machine_after}
use Rattle.calls.proofs.Numbers.{RisesFrom, last_from, numbered_rises, numbered_take, numbered_at, numbered_length}
use Rattle.calls.proofs.Legal.{Legal}
use Rattle.calls.proofs.Prefixes.{legal_prefix, legal_accepted}
use Rattle.calls.proofs.Runs.{runs}
use Rattle.calls.proofs.NumbersStay.{record_number, record_grows}
use Rattle.calls.proofs.Played.{played_machine, played_legal}
use Rattle.calls.proofs.Theorem.{tall_for, run_is, table_is}
use Rattle.block_numbers.specs.BlockNumbers.{table_after, WrittenBy, NumbersTell, RunNumbers}
use Rattle.block_numbers.proofs.NumbersSound.{NumbersSound, start_numbers, numbers_keep, first_number, places_rise, ends_below}
use Rattle.block_numbers.proofs.Wrote.{WroteAt, wrote}

-- ---- every legal list whose numbers rise
module _ (s : Shape) (tall : 1 ≤ s.height) where
  numbers_after : (ns ts : List Numbered) (last : ℕ) → Legal s (ns ++ ts) → NumbersSound s last (machine_after s ns).memory → RisesFrom last ts
      → NumbersSound s (last_from last ts) (machine_after s (ns ++ ts)).memory
  numbers_after ns [] last l old r = subst (λ (x : List Numbered). NumbersSound s last (machine_after s x).memory) (sym (append-nil ns)) old
  numbers_after ns (n ∷ ts) last l old r =
      let e : (ns ++ (n ∷ [])) ++ ts ≡ ns ++ (n ∷ ts) = append_snoc ns n ts in
      let run = runs s tall (legal_prefix s ns (n ∷ ts) l) in
      let acc = legal_accepted s ns n ts l in
      subst (λ (x : List Numbered). NumbersSound s (last_from n.number ts) (machine_after s x).memory) e
      (numbers_after (ns ++ (n ∷ [])) ts n.number (subst (Legal s) (sym e) l)
      (numbers_keep s last n.number r.0 _ _ run.invariant.sound (record_grows s tall ns n run acc) (record_number s tall ns n run acc) old) r.1)

  numbers_sound : (ns : List Numbered) → Legal s ns → RisesFrom 0 ns → NumbersSound s (last_from 0 ns) (machine_after s ns).memory
  unfolding machine_after course_after course_start start
  numbers_sound ns l r = numbers_after [] ns 0 l (start_numbers s) r

-- ---- a list with its numbers
module _ (s : Shape) (tall : 1 ≤ s.height) (rs : List StepRecord) (legal : Legal s (numbered rs)) where
  abbrev m : Memory
  m = (machine_after s (numbered rs)).memory

  abbrev sound : Sound s m
  sound = (runs s tall legal).invariant.sound

  abbrev numbers : NumbersSound s (last_from 0 (numbered rs)) m
  numbers = numbers_sound s tall (numbered rs) legal (numbered_rises rs)

  written_by : (v i n : ℕ) → WroteAt s (numbered rs) v i n → WrittenBy s rs v i n
  unfolding table_after block
  written_by v i n w =
      let low : w.index < length rs = omega (arith, w.low, numbered_length rs) in
      let is : n ≡ suc w.index = w.is (next_after 0 (step_record [])) ∙ numbered_at w.index rs low _ in
      let before : n - 1 ≡ w.index = omega arith in
      record {
        before = rw (before) (count_absent _ (rw (numbered_take w.index rs) at w.before));
        after = rw (is) (count_present _ (rw (numbered_take (suc w.index) rs) at w.after));
      }

  list_numbers : NumbersTell s rs m.table
  unfolding root block subblocks
  list_numbers =
      record {
        zero = λ v v1 vp. first_number s _ m sound numbers v (omega arith);
        written = λ v i v1 vp here. written_by v i _ (wrote s tall legal v i (omega arith) (present_count _ here));
        rises = λ v i j v1 vp l here. places_rise s _ m sound numbers v i j (omega arith) l (present_count _ here);
        above = λ d v b v1 vp here. members_between _ _ _ (λ c low high. ends_below s _ m sound numbers d v b c (omega arith) (present_count _ here) high);
      }

-- ---- a run of any records, to its end or up to its first refusal
pub played_numbers : (s : Shape) → 1 ≤ s.height → (room : ℕ) (rs : List StepRecord) → NumbersTell s (take (play s room rs).taken rs) (play s room rs).machine.memory.table
played_numbers s tall room rs =
    let took = take (play s room rs).taken rs in
    subst (λ (m : Machine). NumbersTell s took m.memory.table) (sym (played_machine s room rs)) (list_numbers s tall took (played_legal s room rs))

-- ---- what a call of Run that is not turned down leaves in the table
pub numbers_run : (p l : ℕ) (records table answers : List ℕ) → accepted (call_refusal p l (length table) (length records)) ≡ true
    → RunNumbers p l records (run p l records table answers)
unfolding run_played
numbers_run p l records table answers ok =
    let played = played_numbers (shape_for p l) (tall_for p l) (length answers) (step_records records) in
    subst (RunNumbers p l records) (sym (run_is p l records table answers ok))
    (subst (NumbersTell (shape_for p l) _) (sym (table_is p l records table answers ok)) played)
