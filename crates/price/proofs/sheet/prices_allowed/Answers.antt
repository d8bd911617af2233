-- `sheet::prices_allowed` meets its contract.
use Prim.Native.Nat.{◌/◌}
use native.Mathlib.Omega.{arith}
use mathlib.Core.Path.{ap, ◌∙◌}
use lib.Dec.{leb}
use lib.ListN.{length}
use borrow.Author.Rules.{rules}
use Rattle.std.specs.Simd.{first_chunks}
use Rattle.std.proofs.lemmas.Grind.{common_steps}
use Rattle.std.proofs.lemmas.Iterator.{YieldsList-from_slice}
use Rattle.std.proofs.lemmas.Iterator.Search.{all_from_yields_List}
use Rattle.price.specs.Sheet.{band, prices_allowed}
use Rattle.price.proofs.Bands.{chunks_bands}
use Rattle.price.proofs.SheetTests.{each_allowed}
use Rattle.price.proofs.sheet.prices_allowed.Goals as goal

pub returns : goal.returns
returns c =
    let sheet = c.args.sheet.now in
    let bytes = first_chunks 8 (length sheet / 8) sheet in
    all_from_yields_List (λ bytes. leb (band bytes).price 1000000) _ _ _ c.all.ensures.ran (YieldsList-from_slice bytes (grind (arith, common_steps))) (λ x b q k. search rules)
    ∙ each_allowed bytes
    ∙ ap prices_allowed (chunks_bands sheet)
