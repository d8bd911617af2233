-- `play::play` meets its contract. The arms of its loop, one a named step: what the step needs, and that the loop's
-- invariant holds after it; then a begin.
use Prim.Native.Nat.{◌+◌, ◌*◌, ◌<◌}
use native.Mathlib.Omega.{arith}
use mathlib.Core.Path.{refl, ap, sym, ◌∙◌}
use mathlib.Core.Bool.{true, false}
use lib.ListN.{get_or}
use Rattle.steps.specs.declared.Status.TheVariants.{Idle}
use Rattle.steps.specs.Process.{idle}
use Rattle.steps.specs.Machine.{is_idle, is_q}
use Rattle.build_steps.proofs.Decision.{decided_next}
use Rattle.answer.proofs.PlaysLaws.{steps_small, helps_small}
use Rattle.player.proofs.LoopInvariant.{loop_start, loop_number, loop_narrow, loop_ends}
use Rattle.player.proofs.StepLoop.{StepAt, step_low, step_idle, step_plays, q, step_named, step_busy, step_leaf, step_playing, step_same, step_ready}
use Rattle.player.proofs.StepLoop.{telling_moves, step_moves, heads_move, table_moves, finish_full, finish_moves}
use Rattle.player.proofs.BeginLoop.{OtherAt, begin_low, valued_ill, other_ill, begin_few, begin_refused, begin_moves}
use Rattle.player.proofs.play.play.Goals.{Else-word_at-ne0, After-begin_of, Else-free-lt16}
use Rattle.player.proofs.play.play.Goals as goal

-- ---- at a step record

-- after its process was found
step_at : (c : Else-word_at-ne0) →
    StepAt
    (record { tree = c.args.layout.now; p = c.processes-p.result; records = c.args.records.now; heads = c.args.heads.now; table = c.args.table.now; room = c.args.room; out = c.args.out.now; log = c.args.log.now })
    (record { heads = c.loop-i.heads; table = c.loop-i.table; out = c.loop-i.out; procs = c.loop-i.procs; answers = c.loop-i.answers; equal = c.loop-i.equal; left = c.loop-i.free })
    c.loop-i.i c.word_at-first.result
step_at c =
    record {
      inv = c.loop-i.invariant;
      more = c.loop-i-test.true;
      word = c.word_at-first.ensures;
      zero = sym c.word_at.ensures ∙ c.if-word_at-ne0.false;
      low = c.if-first-p.true;
    }

-- its counts are small
few_steps : (c : Else-word_at-ne0) → (get_or c.loop-i.procs c.word_at-first.result (record { status = Idle; begun = 0; steps = 0; helps = 0 })).steps < 65536
unfolding idle
few_steps c = omega (arith, steps_small _ _ _ _ _ _ (step_plays (step_at c)))

few_helps : (c : Else-word_at-ne0) → (get_or c.loop-i.procs c.word_at-first.result (record { status = Idle; begun = 0; steps = 0; helps = 0 })).helps < 65536
unfolding idle
few_helps c = omega (arith, helps_small _ _ _ _ _ _ (step_plays (step_at c)))

-- where there is room for an answer
few_answers : (c : Else-free-lt16) → 16 * c.loop-i.answers + 16 < 18446744073709551616
few_answers c = omega (arith, c.if-free-lt16.false, c.loop-i.invariant.so_far.spare, c.ranges.room)

-- ---- at another record

-- its two words say that it is a begin, or nothing
other_at : (c : After-begin_of) →
    OtherAt
    (record { tree = c.args.layout.now; p = c.processes-p.result; records = c.args.records.now; heads = c.args.heads.now; table = c.args.table.now; room = c.args.room; out = c.args.out.now; log = c.args.log.now })
    (record { heads = c.loop-i.heads; table = c.loop-i.table; out = c.loop-i.out; procs = c.loop-i.procs; answers = c.loop-i.answers; equal = c.loop-i.equal; left = c.loop-i.free })
    c.loop-i.i c.word_at-first.result c.word_at-in-loop-i.result c.begin_of.result
other_at c =
    record {
      inv = c.loop-i.invariant;
      more = c.loop-i-test.true;
      bytes = c.type_inv.records;
      word = c.word_at-first.ensures;
      other = c.word_at-in-loop-i.ensures;
      no_step = c.if-first-p.false;
      says = c.begin_of.ensures;
    }

pub prove-unreachable-requires : goal.prove-unreachable-requires
prove-unreachable-requires c =
    omega (arith, step_low (step_at (goal.at.prove-unreachable-requires c).Else-word_at-ne0))

pub prove-unreachable-requires-in-loop-i : goal.prove-unreachable-requires-in-loop-i
prove-unreachable-requires-in-loop-i c =
    let begin = other_at (goal.at.prove-unreachable-requires-in-loop-i c).After-begin_of in
    omega (arith, begin_low begin c.in-Some.is)

pub loop-i-init : goal.loop-i-init
unfolding idle
loop-i-init c = rw c.start-idle.ensures (loop_start _ c.requires (sym c.processes-p.ensures.0))

pub returns-then-word_at-ne0 : goal.returns-then-word_at-ne0
returns-then-word_at-ne0 c =
    rw c.ended.ensures
    (valued_ill c.loop-i.invariant c.loop-i-test.true c.word_at-first.ensures c.word_at.ensures c.if-first-p.true c.if-word_at-ne0.true)

pub returns-in-Idle : goal.returns-in-Idle
unfolding idle
returns-in-Idle c = rw c.ended-in-Idle.ensures (step_idle (step_at (goal.at.returns-in-Idle c).Else-word_at-ne0) c.in-Idle.is)

pub overflow_add-p : goal.overflow_add-p
overflow_add-p c = let f = step_at (goal.at.overflow_add-p c).Else-word_at-ne0 in record { fits = omega (arith, f.low, loop_narrow f.inv) }

pub number_after-requires : goal.number_after-requires
number_after-requires c = loop_number (step_at (goal.at.number_after-requires c).Else-word_at-ne0).inv

pub step_a-requires : goal.step_a-requires
unfolding idle is_q is_idle
step_a-requires c = let busy = c.in-Busy.is in
    let at = sym (step_named (step_at (goal.at.step_a-requires c).Else-word_at-ne0) busy c.in-A.is) in
    let ready = step_ready (step_at (goal.at.step_a-requires c).Else-word_at-ne0) busy at refl in
    record { steps_bound = (few_steps (goal.at.step_a-requires c).Else-word_at-ne0, rw busy refl, at); adds = ready }

pub loop-i-preserved-in-A : goal.loop-i-preserved-in-A
unfolding idle is_q
loop-i-preserved-in-A c =
    let f = step_at (goal.at.loop-i-preserved-in-A c).Else-word_at-ne0 in
    step_moves f c.in-Busy.is c.in-A.is refl _ _ _ refl c.step_a.auto.table
    (λ is ready.
    let e = rw c.number_after.ensures at c.step_a.ensures in
    (e.0, rw is (e.1 _ (step_leaf f))))

pub step_v1-requires : goal.step_v1-requires
unfolding idle is_q
step_v1-requires c = (few_steps (goal.at.step_v1-requires c).Else-word_at-ne0, λ _ _ _ _ e. step_ready (step_at (goal.at.step_v1-requires c).Else-word_at-ne0) c.in-Busy.is e refl)

pub loop-i-preserved-in-V1 : goal.loop-i-preserved-in-V1
unfolding idle is_q
loop-i-preserved-in-V1 c =
    heads_move (step_at (goal.at.loop-i-preserved-in-V1 c).Else-word_at-ne0) c.in-Busy.is c.in-V1.is refl _ _ refl (c.step_v1.ensures.0 _ _ _ _)

pub step_v2-requires : goal.step_v2-requires
unfolding idle is_q
step_v2-requires c =
    let busy = c.in-Busy.is in
    (few_steps (goal.at.step_v2-requires c).Else-word_at-ne0, λ _ _ _ _ _ e. (step_ready (step_at (goal.at.step_v2-requires c).Else-word_at-ne0) busy e refl).1)

pub loop-i-preserved-in-V2 : goal.loop-i-preserved-in-V2
unfolding idle is_q
loop-i-preserved-in-V2 c =
    table_moves (step_at (goal.at.loop-i-preserved-in-V2 c).Else-word_at-ne0) c.in-Busy.is c.in-V2.is refl _ _ c.step_v2.auto.table
    ((c.step_v2.ensures _).0 _ _ _ _ _)

pub step_v3_child-requires : goal.step_v3_child-requires
unfolding idle is_q
step_v3_child-requires c =
    let told = c.advances_child.ensures.0 in
    (few_steps (goal.at.step_v3_child-requires c).Else-word_at-ne0, few_helps (goal.at.step_v3_child-requires c).Else-word_at-ne0, λ _ _ _ _ e. let r = step_ready (step_at (goal.at.step_v3_child-requires c).Else-word_at-ne0) c.in-Busy.is e refl in (sym (told _ _ _ _ e) ∙ c.if-advances_child.true, r.0, r.1))

pub loop-i-preserved-then-advances_child : goal.loop-i-preserved-then-advances_child
unfolding idle is_q
loop-i-preserved-then-advances_child c =
    let f = step_at (goal.at.loop-i-preserved-then-advances_child c).Else-word_at-ne0 in
    telling_moves f c.in-Busy.is c.in-V3.is refl _ _ _ c.step_v3_child.auto.heads refl
    (λ is _. c.step_v3_child.ensures.0 _ _ _ _ is _ _ _ _)

pub step_v3_own-requires : goal.step_v3_own-requires
unfolding idle is_q
step_v3_own-requires c =
    let told = c.advances_child.ensures.0 in
    (few_steps (goal.at.step_v3_own-requires c).Else-word_at-ne0, λ _ _ _ _ e. let r = step_ready (step_at (goal.at.step_v3_own-requires c).Else-word_at-ne0) c.in-Busy.is e refl in (sym (told _ _ _ _ e) ∙ c.if-advances_child.false, r.0, r.1))

pub loop-i-preserved-in-V3 : goal.loop-i-preserved-in-V3
unfolding idle is_q
loop-i-preserved-in-V3 c =
    heads_move (step_at (goal.at.loop-i-preserved-in-V3 c).Else-word_at-ne0) c.in-Busy.is c.in-V3.is refl _ _ c.step_v3_own.auto.heads
    (c.step_v3_own.ensures.0 _ _ _ _)

pub step_r1-requires : goal.step_r1-requires
unfolding idle is_q
step_r1-requires c = (few_steps (goal.at.step_r1-requires c).Else-word_at-ne0, λ _ _ e. step_ready (step_at (goal.at.step_r1-requires c).Else-word_at-ne0) c.in-Busy.is e refl)

pub loop-i-preserved-in-R1 : goal.loop-i-preserved-in-R1
unfolding idle is_q
loop-i-preserved-in-R1 c =
    heads_move (step_at (goal.at.loop-i-preserved-in-R1 c).Else-word_at-ne0) c.in-Busy.is c.in-R1.is refl _ _ refl (c.step_r1.ensures.0 _ _)

pub step_r2-requires : goal.step_r2-requires
unfolding idle is_q
step_r2-requires c = (few_steps (goal.at.step_r2-requires c).Else-word_at-ne0, λ _ e. step_ready (step_at (goal.at.step_r2-requires c).Else-word_at-ne0) c.in-Busy.is e refl)

pub loop-i-preserved-in-R2 : goal.loop-i-preserved-in-R2
unfolding idle is_q
loop-i-preserved-in-R2 c =
    heads_move (step_at (goal.at.loop-i-preserved-in-R2 c).Else-word_at-ne0) c.in-Busy.is c.in-R2.is refl _ _ refl (c.step_r2.ensures.0 _)

pub step_r3-requires : goal.step_r3-requires
unfolding idle is_q
step_r3-requires c =
    let busy = c.in-Busy.is in
    (few_steps (goal.at.step_r3-requires c).Else-word_at-ne0, λ _ _ e. (step_ready (step_at (goal.at.step_r3-requires c).Else-word_at-ne0) busy e refl).1)

pub loop-i-preserved-in-R3 : goal.loop-i-preserved-in-R3
unfolding idle is_q
loop-i-preserved-in-R3 c =
    table_moves (step_at (goal.at.loop-i-preserved-in-R3 c).Else-word_at-ne0) c.in-Busy.is c.in-R3.is refl _ _ refl ((c.step_r3.ensures _).0 _ _)

pub step_r4-requires : goal.step_r4-requires
unfolding idle is_q
step_r4-requires c = (few_steps (goal.at.step_r4-requires c).Else-word_at-ne0, λ _ e. step_ready (step_at (goal.at.step_r4-requires c).Else-word_at-ne0) c.in-Busy.is e refl)

pub loop-i-preserved-in-R4 : goal.loop-i-preserved-in-R4
unfolding idle is_q
loop-i-preserved-in-R4 c =
    heads_move (step_at (goal.at.loop-i-preserved-in-R4 c).Else-word_at-ne0) c.in-Busy.is c.in-R4.is refl _ _ refl (c.step_r4.ensures.0 _)

pub step_r5-requires : goal.step_r5-requires
unfolding idle is_q
step_r5-requires c =
    let busy = c.in-Busy.is in
    (few_steps (goal.at.step_r5-requires c).Else-word_at-ne0, λ _ _ e. (step_ready (step_at (goal.at.step_r5-requires c).Else-word_at-ne0) busy e refl).1)

pub loop-i-preserved-in-R5 : goal.loop-i-preserved-in-R5
unfolding idle is_q
loop-i-preserved-in-R5 c =
    table_moves (step_at (goal.at.loop-i-preserved-in-R5 c).Else-word_at-ne0) c.in-Busy.is c.in-R5.is refl _ _ refl ((c.step_r5.ensures _).0 _ _)

pub step_c1-requires : goal.step_c1-requires
unfolding idle is_q
step_c1-requires c = (few_steps (goal.at.step_c1-requires c).Else-word_at-ne0, λ _ e. step_ready (step_at (goal.at.step_c1-requires c).Else-word_at-ne0) c.in-Busy.is e refl)

pub loop-i-preserved-in-C1 : goal.loop-i-preserved-in-C1
unfolding idle is_q
loop-i-preserved-in-C1 c =
    heads_move (step_at (goal.at.loop-i-preserved-in-C1 c).Else-word_at-ne0) c.in-Busy.is c.in-C1.is refl _ _ refl (c.step_c1.ensures.0 _)

pub step_c2-requires : goal.step_c2-requires
unfolding idle is_q
step_c2-requires c = (few_steps (goal.at.step_c2-requires c).Else-word_at-ne0, λ _ _ e. step_ready (step_at (goal.at.step_c2-requires c).Else-word_at-ne0) c.in-Busy.is e refl)

pub loop-i-preserved-in-C2 : goal.loop-i-preserved-in-C2
unfolding idle is_q
loop-i-preserved-in-C2 c =
    heads_move (step_at (goal.at.loop-i-preserved-in-C2 c).Else-word_at-ne0) c.in-Busy.is c.in-C2.is refl _ _ refl (c.step_c2.ensures.0 _ _)

pub step_c3l-requires : goal.step_c3l-requires
unfolding idle is_q
step_c3l-requires c =
    let busy = c.in-Busy.is in
    (few_steps (goal.at.step_c3l-requires c).Else-word_at-ne0, λ _ _ _ e. (step_ready (step_at (goal.at.step_c3l-requires c).Else-word_at-ne0) busy e refl).1)

pub loop-i-preserved-in-C3L : goal.loop-i-preserved-in-C3L
unfolding idle is_q
loop-i-preserved-in-C3L c =
    table_moves (step_at (goal.at.loop-i-preserved-in-C3L c).Else-word_at-ne0) c.in-Busy.is c.in-C3L.is refl _ _ refl ((c.step_c3l.ensures _).0 _ _ _)

pub step_c3r-requires : goal.step_c3r-requires
unfolding idle is_q
step_c3r-requires c =
    let busy = c.in-Busy.is in
    (few_steps (goal.at.step_c3r-requires c).Else-word_at-ne0, λ _ _ _ _ _ e. (step_ready (step_at (goal.at.step_c3r-requires c).Else-word_at-ne0) busy e refl).1)

pub loop-i-preserved-in-C3R : goal.loop-i-preserved-in-C3R
unfolding idle is_q
loop-i-preserved-in-C3R c =
    table_moves (step_at (goal.at.loop-i-preserved-in-C3R c).Else-word_at-ne0) c.in-Busy.is c.in-C3R.is refl _ _ refl ((c.step_c3r.ensures _).0 _ _ _ _ _)

pub adds_nothing-requires : goal.adds_nothing-requires
unfolding idle is_q
adds_nothing-requires c = λ _ _ _ _ _ e. (step_ready (step_at (goal.at.adds_nothing-requires c).Else-word_at-ne0) c.in-Busy.is e refl).1

pub step_c3n_up-requires : goal.step_c3n_up-requires
unfolding idle
step_c3n_up-requires c = few_steps (goal.at.step_c3n_up-requires c).Else-word_at-ne0

pub loop-i-preserved-then-adds_nothing : goal.loop-i-preserved-then-adds_nothing
unfolding idle is_q
loop-i-preserved-then-adds_nothing c =
    let decided = rw c.if-adds_nothing.true at c.adds_nothing.ensures in
    table_moves (step_at (goal.at.loop-i-preserved-then-adds_nothing c).Else-word_at-ne0) c.in-Busy.is c.in-C3N.is refl _ _ refl
    (λ is. decided_next _ _ _ (q (step_at (goal.at.loop-i-preserved-then-adds_nothing c).Else-word_at-ne0)) _ _ _ _ _ _ is true (decided.0 _ _ _ _ _ is) (c.step_c3n_up.ensures.0 _ _ _ _ _ is))

pub step_c3n_on-requires : goal.step_c3n_on-requires
unfolding idle is_q
step_c3n_on-requires c =
    let busy = c.in-Busy.is in
    (few_steps (goal.at.step_c3n_on-requires c).Else-word_at-ne0, λ _ _ _ _ _ e. (step_ready (step_at (goal.at.step_c3n_on-requires c).Else-word_at-ne0) busy e refl).1)

pub loop-i-preserved-in-C3N : goal.loop-i-preserved-in-C3N
unfolding idle is_q
loop-i-preserved-in-C3N c =
    let decided = rw c.if-adds_nothing.false at c.adds_nothing.ensures in
    table_moves (step_at (goal.at.loop-i-preserved-in-C3N c).Else-word_at-ne0) c.in-Busy.is c.in-C3N.is refl _ _ refl
    (λ is. decided_next _ _ _ (q (step_at (goal.at.loop-i-preserved-in-C3N c).Else-word_at-ne0)) _ _ _ _ _ _ is false (decided.0 _ _ _ _ _ is) (c.step_c3n_on.ensures.0 _ _ _ _ _ is))

pub number_after-requires-in-C4 : goal.number_after-requires-in-C4
number_after-requires-in-C4 c = loop_number (step_at (goal.at.number_after-requires-in-C4 c).Else-word_at-ne0).inv

pub step_c4-requires : goal.step_c4-requires
unfolding idle is_q
step_c4-requires c =
    let busy = c.in-Busy.is in
    (few_steps (goal.at.step_c4-requires c).Else-word_at-ne0, λ _ _ e. (step_ready (step_at (goal.at.step_c4-requires c).Else-word_at-ne0) busy e refl).1)

pub loop-i-preserved-in-C4 : goal.loop-i-preserved-in-C4
unfolding idle is_q
loop-i-preserved-in-C4 c =
    table_moves (step_at (goal.at.loop-i-preserved-in-C4 c).Else-word_at-ne0) c.in-Busy.is c.in-C4.is refl _ _ c.step_c4.auto.table
    (λ is. rw c.number_after-in-C4.ensures at (c.step_c4.ensures.0 _ _ is))

pub returns-then-free-lt16 : goal.returns-then-free-lt16
unfolding idle
returns-then-free-lt16 c =
    let f = step_at (goal.at.returns-then-free-lt16 c).Else-word_at-ne0 in
    let busy = c.in-Busy.is in
    rw c.ended-then-free-lt16.ensures (finish_full f (step_busy f busy refl (step_named f busy c.in-Q.is)) c.if-free-lt16.true)

pub nonzero_rem-first : goal.nonzero_rem-first
nonzero_rem-first c = omega (arith, (step_at (goal.at.nonzero_rem-first c).Else-word_at-ne0).low)

pub operation_in-requires : goal.operation_in-requires
unfolding idle is_idle
operation_in-requires c = ap is_idle c.in-Busy.is

pub answer_of-a-requires : goal.answer_of-a-requires
unfolding idle
answer_of-a-requires c =
    let f = step_at (goal.at.answer_of-a-requires c).Else-word_at-ne0 in
    let busy = c.in-Busy.is in
    (rw (step_same f) (step_playing f), step_busy f busy c.operation_in.ensures (step_named f busy c.in-Q.is))

pub equal_after-equal-requires : goal.equal_after-equal-requires
equal_after-equal-requires c = omega (arith, few_answers (goal.at.equal_after-equal-requires c).Else-free-lt16)

pub write_answer-requires : goal.write_answer-requires
write_answer-requires c = omega (arith, few_answers (goal.at.write_answer-requires c).Else-free-lt16)

pub overflow_add-answers : goal.overflow_add-answers
overflow_add-answers c = record { fits = omega (arith, few_answers (goal.at.overflow_add-answers c).Else-free-lt16) }

pub rested-requires : goal.rested-requires
rested-requires c = few_steps (goal.at.rested-requires c).Else-word_at-ne0

pub loop-i-preserved-in-Q : goal.loop-i-preserved-in-Q
unfolding idle
loop-i-preserved-in-Q c =
    let f = step_at (goal.at.loop-i-preserved-in-Q c).Else-word_at-ne0 in
    let busy = c.in-Busy.is in
    rw c.rested.ensures
    (finish_moves f (step_busy f busy c.operation_in.ensures (step_named f busy c.in-Q.is)) c.if-free-lt16.false _ _ _ c.write_answer.auto.out
    (rw (step_same f) at c.answer_of-a.ensures) c.equal_after-equal.ensures c.write_answer.ensures)

pub begin_of-requires : goal.begin_of-requires
begin_of-requires c = (c.if-first-p.false, omega (arith, loop_narrow c.loop-i.invariant))

pub returns-in_default : goal.returns-in_default
returns-in_default c = rw c.ended-in_default.ensures (other_ill (other_at (goal.at.returns-in_default c).After-begin_of) c.in_default.is)

pub returns-in-Err : goal.returns-in-Err
unfolding idle
returns-in-Err c =
    rw c.ended-in-Err.ensures
    (begin_refused (other_at (goal.at.returns-in-Err c).After-begin_of) c.in-Some.is (rw c.most-l.ensures.0 at c.begin_refusal.ensures) _ c.in-Err.is)

pub entered-requires : goal.entered-requires
unfolding idle
entered-requires c =
    omega (arith, begin_few (other_at (goal.at.entered-requires c).After-begin_of) c.in-Some.is)

pub loop-i-preserved : goal.loop-i-preserved
unfolding idle
loop-i-preserved c =
    rw c.entered.ensures
    (begin_moves (other_at (goal.at.loop-i-preserved c).After-begin_of) c.in-Some.is (rw c.most-l.ensures.0 at c.begin_refusal.ensures) c.in-Ok.is)

pub returns : goal.returns
returns c = rw c.ended-2.ensures (loop_ends c.loop-i.invariant c.loop-i-test.false)
