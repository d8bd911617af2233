-- The invariant of the loop: the numbers passed are appended.
use Rattle.std.proofs.Common.{◌≡◌, ◌++◌, take}
use Rattle.std.specs.List.{flat_map}
use Rattle.text.specs.Decimal.{number_field}
use Rattle.print_nodes.proofs.put_spaced.Given as goal

abbrev pub invariant-loop-x : goal.invariant-loop-x
invariant-loop-x g l = l.page.bytes ≡ l.initial.page.bytes ++ flat_map number_field (take l.x-index l.others)
