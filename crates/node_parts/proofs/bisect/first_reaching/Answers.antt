-- `bisect::first_reaching` meets its contract.
use mathlib.Core.List.{List}
use lib.ListN.{get_or}
use lib.Dec.{ltb}
use Prim.Native.Nat.{ℕ}
use borrow.Author.Rules.{rules}
use Rattle.std.proofs.lemmas.List.Sorted.{IsPartitionPoint-from_clause, IsPartitionedBy-ltb}
use Rattle.node_parts.proofs.PlaceSearch.{rises, place_first, place_reaches}
use Rattle.node_parts.proofs.bisect.first_reaching.Goals as goal

pub returns : goal.returns
returns c =
    let a = c.args in
    let q = c.requires.reached in
    let front = c.as_chunks.ensures in
    let up = rises a.part.now a.word a.last a.x q.0 q.1 q.2 c.as_chunks.result.0.now front.front front.front_len c.requires.rising in
    let point = IsPartitionPoint-from_clause (λ (b : List ℕ). ltb (get_or b a.word 0) a.x) _ _ c.partition_point.ensures.partitioned
    (IsPartitionedBy-ltb (λ (b : List ℕ). get_or b a.word 0) _ a.x up) (λ d r f k. search rules) in
    let bound = c.partition_point.ensures.bound in
    record {
      reaches = place_reaches a.part.now a.word a.last a.x q.0 q.1 q.2 c.as_chunks.result.0.now front.front front.front_len _ bound point q.3;
      first = place_first a.part.now a.word a.last a.x q.0 q.1 q.2 c.as_chunks.result.0.now front.front front.front_len _ bound point;
    }
