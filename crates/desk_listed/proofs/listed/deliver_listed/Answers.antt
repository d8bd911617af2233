-- `listed::deliver_listed` meets its contract.
use Prim.Native.Nat.{ℕ}
use native.Mathlib.Omega.{arith}
use lib.ListN.{length-replicate}
use lib.Seq.{length-take-le}
use Rattle.desk_rules.specs.Entries.{term_size}
use Rattle.desk_listed.proofs.ListedTerms.{listed_few, listed_room, listed_slots, received_length, listed_short, listed_sent}
use Rattle.desk_listed.proofs.listed.deliver_listed.Goals as goal

pub collect-count-requires : goal.collect-count-requires
collect-count-requires c =
    let k = c.requires in
    let cut_so = c.as_chunks.ensures in
    record { room = (listed_few k, omega (arith, listed_room k, cut_so.front_len, length-replicate {A = ℕ} 4000 0)); slots = listed_slots k _ cut_so.front _ (received_length k c.receive_all.ensures) }

pub returns-then-output-count : goal.returns-then-output-count
returns-then-output-count c =
    listed_short c.requires c.receive_all.ensures c.collect-count.result _ c.collect-count.ensures.0 _ c.as_chunks.ensures.front c.collect-count.ensures.1 _
    c.if-output-count.true

pub send-requires : goal.send-requires
unfolding term_size
send-requires c =
    let made = c.collect-count in
    omega (arith, length-take-le made.result made.new.terms made.ensures.0, c.if-output-count.false)

pub returns : goal.returns
returns c =
    listed_sent c.requires c.receive_all.ensures c.collect-count.result _ c.collect-count.ensures.0 _ c.as_chunks.ensures.front c.collect-count.ensures.1 _ _
    (omega (arith, c.if-output-count.false)) c.send.ensures
