-- One name for all definitions of this crate, for proofs by computation: what unfolds it unfolds them.
use mathlib.Core.List.{flat_map}
use Rattle.base.specs.Between.{following, between}
use Rattle.tree.specs.Shape.{processes, root, left_of, right_of, parent_of, leaf_of, height_in, height_of, last_place, height_for, shape_for}
use Rattle.tree.specs.Layout.{part_words, part_start, words_needed, part_of, with_part}
use Rattle.tree.specs.Blocks.{word_in, block_in, words_of, with_block, block_at, with_block_at, absent}
use Rattle.tree.specs.Sides.{subblocks}
use Rattle.tree.specs.Memory.{head_of, block, write, write_if_absent, with_super, set_super, head_is, raise}
use Rattle.tree.specs.Size.{root_size}
use Rattle.tree.specs.Order.{total, opened, in_root, last_among, last_root, placed, block_order, root_order, root_operations, root_puts}
use Rattle.tree.specs.Standing.{same, times, stands_in, first_of, root_block_of, rank_in}

unfoldable pub trees : Unit {0}
unfolding flat_map following between height_for shape_for processes root left_of right_of parent_of leaf_of height_in height_of
    last_place part_words part_start words_needed part_of with_part word_in block_in words_of with_block block_at with_block_at
    absent subblocks head_of block write write_if_absent with_super set_super head_is raise root_size total opened in_root last_among
    last_root placed block_order root_order root_operations root_puts same times stands_in first_of root_block_of rank_in
trees = tt
