-- `replies::take_reply` meets its contract.
use native.Mathlib.Omega.{arith}
use borrow.Author.Rules.{rules}
use Rattle.answer.proofs.TakeLaws.{place_before, place_here, puts_rise_lem, take_none, number_small, number_low, take_numbered, take_some}
use Rattle.answer.proofs.replies.take_reply.Goals as goal

pub block_at-before-requires : goal.block_at-before-requires
block_at-before-requires c = place_before c.requires.holds

pub block_at-here-requires : goal.block_at-here-requires
block_at-here-requires c = place_here c.requires.holds

pub overflow_sub-here : goal.overflow_sub-here
overflow_sub-here c = puts_rise_lem c.requires.holds c.block_at-before.ensures c.block_at-here.ensures

pub returns-then-margin-lt0 : goal.returns-then-margin-lt0
returns-then-margin-lt0 c =
    take_none c.requires.holds c.block_at-before.ensures c.block_at-here.ensures c.margin.ensures (search rules) c.if-margin-lt0.true

pub overflow_add-number : goal.overflow_add-number
overflow_add-number c =
    omega (
      arith,
      number_small c.requires.holds c.block_at-before.ensures c.block_at-here.ensures c.margin.ensures (search rules) c.if-margin-lt0.false,
    )

pub overflow_sub-number : goal.overflow_sub-number
overflow_sub-number c = number_low c.requires.holds c.block_at-before.ensures c.block_at-here.ensures

pub put_value-value-requires : goal.put_value-value-requires
put_value-value-requires c =
    let p = c.requires in
    let x = c.block_at-before.ensures in
    let y = c.block_at-here.ensures in
    record { one = p.one; holds = take_numbered p.holds x y c.margin.ensures (search rules) c.if-margin-lt0.false }

pub returns : goal.returns
returns c =
    let e = c.if-margin-lt0.false in
    take_some c.requires.holds c.block_at-before.ensures c.block_at-here.ensures c.margin.ensures (search rules) e c.put_value-value.ensures
