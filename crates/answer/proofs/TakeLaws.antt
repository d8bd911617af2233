-- The root blocks that the reply of a take reads, and what its margin says of the put whose value it gets.
use Prim.Native.Nat.{ℕ, ◌+◌, ◌-◌, ◌≤◌}
use native.Mathlib.Omega.{arith}
use mathlib.Core.Path.{◌≡◌, sym, ap, ◌∙◌}
use mathlib.Core.Bool.{true, false}
use mathlib.Core.List.{List}
use lib.IntN.{ℤ, pos, ◌+ℤ◌, ◌-ℤ◌}
use lib.Signed.{lt_z}
use mir.Facts.{to_z-of_z}
use mir.Syntax.{w64}
use mir.Val.{SFits, to_z, of_z}
use borrow.Author.Tests.{ltb-false}
use Rattle.record.specs.declared.Reply.TheVariants.{Value, Nothing}
use Rattle.tree.specs.declared.Block.{Block}
use Rattle.tree.specs.declared.Kind.TheVariants.{Puts}
use Rattle.tree.specs.Shape.{Shape, root}
use Rattle.tree.specs.Blocks.{block_at}
use Rattle.tree.specs.Memory.{Memory, block, memory_of}
use Rattle.tree.specs.Order.{total, last_root}
use Rattle.tree.proofs.Sound.{totals_rise}
use Rattle.tree.proofs.LastRoot.{node_root, root_sound, root_written}
use Rattle.tree.specs.Clauses.Access.{HasPlace}
use Rattle.calls.specs.Answer.{margin, put_number, value_of, take_reply}
use Rattle.calls.proofs.RootQueue.{size_within}
use Rattle.search.specs.Clauses.Numbered.{Numbered, ValueAt}
use Rattle.tree.proofs.Places.{places_most, written_place}
use Rattle.answer.specs.Clauses.Answering.{TakeAt}
use Rattle.answer.proofs.Margins.{margin_below, by_below, by_rest}

module _ {s : Shape} {heads table : List ℕ} {b i : ℕ} (h : TakeAt s table b i heads) where
  abbrev m : Memory
  m = memory_of table heads

  root_place : (j : ℕ) → j ≤ last_root s table → HasPlace s table 1 j
  unfolding root
  root_place j l =
      written_place h.tree root j (node_root s) (root_written s m h.tree.sound j l)

  pub place_before : HasPlace s table 1 (b - 1)
  place_before = root_place (b - 1) (omega (arith, h.most))

  pub place_here : HasPlace s table 1 b
  place_here = root_place b h.most

  -- x and y are the block before and the block itself
  module _ {x y : Block} (ex : x ≡ block_at s table 1 (b - 1)) (ey : y ≡ block_at s table 1 b) where
    pub puts_rise_lem : x.puts ≤ y.puts
    unfolding root total block
    puts_rise_lem =
        rw (ex, ey)
        (totals_rise (root_sound s m h.tree.sound) Puts (b - 1) b (omega arith) (root_written s m h.tree.sound b h.most))

    size_low_lem : x.size ≤ x.puts
    unfolding root block
    size_low_lem = rw ex (size_within s m h.tree.sound h.tree.inner (b - 1) (omega (arith, h.most)))

    pub number_low : x.size ≤ i + x.puts
    number_low = omega (arith, size_low_lem)

    puts_small : y.puts ≤ 4000
    unfolding root block
    puts_small =
        rw ey (omega (arith, (root_sound s m h.tree.sound).within b, places_most s h.tree.tall h.tree.few root))

    -- z is the margin, and the code tests its bits
    module _ {z : ℤ} (ez : z ≡ pos x.size +ℤ pos (y.puts - x.puts) -ℤ pos i) (fits : SFits w64 z) where
      bits_are : to_z w64 (of_z w64 z) ≡ pos x.size +ℤ pos (y.puts - x.puts) -ℤ pos i
      bits_are = to_z-of_z fits ∙ ez

      margin_is : to_z w64 (of_z w64 z) ≡ margin s table b i
      unfolding margin root
      margin_is = bits_are ∙ rw (ex, ey)

      pub take_none : lt_z (to_z w64 (of_z w64 z)) (pos 0) ≡ true → Nothing ≡ take_reply s table b i
      unfolding take_reply
      take_none e = sym (by_below (margin s table b i) _ (rw margin_is at e))

      -- not below 0: there are values enough
      module _ (e : lt_z (to_z w64 (of_z w64 z)) (pos 0) ≡ false) where
        enough : i ≤ x.size + (y.puts - x.puts)
        enough = ltb-false _ _ (sym (margin_below x.size (y.puts - x.puts) i) ∙ rw bits_are at e)

        pub number_small : i + x.puts ≤ 8000
        number_small = omega (arith, enough, puts_rise_lem, size_low_lem, puts_small)

        pub take_numbered : Numbered s table b (i + x.puts - x.size) heads
        unfolding root
        take_numbered =
            record {
              tree = h.tree;
              some = h.some;
              most = h.most;
              first = omega (arith, size_low_lem, h.first);
              within = omega (arith, enough, puts_rise_lem, ap (λ (w : Block). w.puts) ey);
            }

        pub take_some : {v : ℕ} → ValueAt s table (i + x.puts - x.size) v → Value v ≡ take_reply s table b i
        unfolding take_reply put_number value_of root
        take_some f =
            ap Value (rw ex at (f (record { process = 0; serial = 0 }))) ∙ sym (by_rest (margin s table b i) _ (rw margin_is at e))
