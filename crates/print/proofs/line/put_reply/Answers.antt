-- `line::put_reply` meets its contract.
use native.Mathlib.Omega.{arith}
use borrow.Author.Rules.{rules}
use mathlib.Core.Path.{ap}
use mathlib.Core.List.{append-nil}
use lib.ListN.{length}
use Rattle.record.specs.declared.Reply.{Reply}
use Rattle.text.specs.Characters.{ascii}
use Rattle.print.specs.Lines.{reply_field}
use Rattle.print.proofs.line.put_reply.Goals as goal

pub put_number-requires : goal.put_number-requires
unfolding reply_field
put_number-requires g c = omega (arith, ap (λ (x : Reply). length (reply_field x)) c.in-Value.is)

pub push_str-requires : goal.push_str-requires
unfolding reply_field ascii
push_str-requires g c = omega (arith, ap (λ (x : Reply). length (reply_field x)) c.in-Nothing.is)

pub returns-in-Done : goal.returns-in-Done
unfolding reply_field
returns-in-Done g c = rw c.in-Done.is (search (rules, append-nil))

pub returns-in-Value : goal.returns-in-Value
unfolding reply_field
returns-in-Value g c = rw c.in-Value.is (search rules)

pub returns-in-Nothing : goal.returns-in-Nothing
unfolding reply_field ascii
returns-in-Nothing g c = rw c.in-Nothing.is (search rules)
