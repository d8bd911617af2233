-- `sheet::bands_allowed` meets its contract.
use Prim.Native.Nat.{◌≤◌, ◌<◌}
use mathlib.Core.Path.{ap, ◌∙◌}
use mathlib.Core.List.{map}
use native.Mathlib.Omega.{arith}
use lib.Dec.{ltb}
use lib.ListN.{length}
use borrow.Author.Rules.{rules}
use Rattle.std.proofs.lemmas.Grind.{common_steps}
use Rattle.std.proofs.lemmas.List.Sorted.{answers_always}
use Rattle.price.specs.Sheet.{band, bands_allowed}
use Rattle.price.proofs.Bands.{chunks_bands}
use Rattle.price.proofs.SheetTests.{all_rise, so_many, not_so_many}
use Rattle.price.proofs.sheet.bands_allowed.Goals as goal

pub returns-then-contains : goal.returns-then-contains
returns-then-contains c =
    let low : 1 ≤ length c.as_chunks.result.0.now = search rules in
    let high : length c.as_chunks.result.0.now ≤ 8 = search rules in
    all_rise _ _ _ (grind (arith, common_steps)) (c.is_sorted_by.ensures.cases (λ b c. ltb (band b).last (band c).last) (answers_always _ _ _ (λ f a r f' k. search rules)))
    ∙ so_many c.as_chunks.result.0.now low high
    ∙ ap bands_allowed (ap (map band) c.as_chunks.ensures.front ∙ chunks_bands c.args.sheet.now)

pub returns-else-contains : goal.returns-else-contains
returns-else-contains c =
    let outside : 1 ≤ length c.as_chunks.result.0.now → 8 < length c.as_chunks.result.0.now = search rules in
    c.if-contains.false ∙ not_so_many c.as_chunks.result.0.now outside
    ∙ ap bands_allowed (ap (map band) c.as_chunks.ensures.front ∙ chunks_bands c.args.sheet.now)
