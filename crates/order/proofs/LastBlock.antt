-- The last root block of a sound tree: it is at the root's head, if a block is there, and just before the head if
-- none is; its place is the root's, and it counts the list's records.
use Prim.Native.Nat.{ℕ, ◌*◌, ◌-◌, ◌≤◌, ◌<◌}
use native.Mathlib.Omega.{arith}
use native.Mathlib.Decide.{ℕ_discrete}
use mathlib.Core.Path.{◌≡◌}
use mathlib.Core.Logic.{inl, inr}
use mathlib.Core.Bool.{true, false}
use mathlib.Core.List.{List}
use lib.ListN.{length, get_or}
use Rattle.tree.specs.Shape.{Shape, root}
use Rattle.tree.specs.Blocks.{absent, block_at}
use Rattle.tree.specs.Memory.{Memory, memory_of, head_of, block}
use Rattle.tree.specs.Order.{last_root}
use Rattle.tree.specs.Clauses.Invariant.{Node, count, Present, Written}
use Rattle.tree.proofs.Nodes.{root_node}
use Rattle.tree.proofs.Presence.{absent_count, present_count}
use Rattle.tree.proofs.LastRoot.{root_sound, last_written, last_most, last_head, head_last}
use Rattle.tree.specs.Clauses.Access.{HasPart, HasPlace}
use Rattle.tree.specs.Clauses.SoundTree.{SoundTree}
use Rattle.order.specs.OrderList.{order_list}
use Rattle.tree.proofs.Places.{node_headed, node_part_lem, node_small, written_place}
use Rattle.order.proofs.RootRecords.{list_count}

module _ {s : Shape} {heads table : List ℕ} (q : SoundTree s heads table) where
  -- ---- the root
  node : Node s 1
  node = root_node s

  pub root_head : 1 < length heads
  root_head = node_headed q 1 node

  pub root_part : HasPart s table 1
  root_part = node_part_lem q 1 node

  pub root_small : (i : ℕ) → count (block_at s table 1 i) ≤ 4000
  root_small i = node_small q 1 i node

  -- ---- the last block
  pub last_at_head : absent (block_at s table 1 (get_or heads 1 1)) ≡ false → get_or heads 1 1 ≡ last_root s table
  unfolding root head_of block
  last_at_head e =
      let m = memory_of table heads in
      let h : ℕ = head_of m root in
      omega (arith, last_head s m q.sound, last_most s m q.sound h (present_count (block s m root h) e))

  pub last_before_head : absent (block_at s table 1 (get_or heads 1 1)) ≡ true → get_or heads 1 1 - 1 ≡ last_root s table
  unfolding root head_of block
  last_before_head e = on (ℕ_discrete (last_root s table) h) (last_written s m q.sound)
    where
      m : Memory
      m = memory_of table heads

      h : ℕ
      h = head_of m root

      on : Dec (last_root s table ≡ h) → Written s m root (last_root s table) → h - 1 ≡ last_root s table
      on (no n) w = omega (arith, last_head s m q.sound, head_last s m q.sound)
      on (yes p) (inl z) = absurd (omega (arith, (root_sound s m q.sound).head))
      on (yes p) (inr f) =
          let g : Present s m root h = rw p at f in
          absurd (omega (arith, absent_count (block s m root h) e))

  pub head_first : 1 ≤ get_or heads 1 1
  unfolding head_of
  head_first = (q.sound.node 1 node).head

  pub last_place_lem : HasPlace s table 1 (last_root s table)
  unfolding root
  last_place_lem = written_place q 1 (last_root s table) node (last_written s (memory_of table heads) q.sound)

  pub last_counts : length (order_list s table) ≡ 8 * count (block_at s table 1 (last_root s table))
  unfolding root block
  last_counts = list_count s (memory_of table heads) q.sound
