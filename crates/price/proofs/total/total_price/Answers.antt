-- `total::total_price` meets its contract.
use native.Mathlib.Omega.{arith}
use mathlib.Core.Path.{◌∙◌}
use Rattle.price.proofs.Bands.{bands_length}
use Rattle.price.proofs.SheetTests.{accepted}
use Rattle.price.proofs.Priced.{priced_none}
use Rattle.price.proofs.PricedSheet.{Read, Next, Final, read, next, final}
use Rattle.price.proofs.total.total_price.Goals.{After-unwrap, After-min-end, After-from}
use Rattle.price.proofs.total.total_price.Goals as goal

-- there is a band
pub unwrap-requires : goal.unwrap-requires
unwrap-requires c = c.split_last.ensures.variant.1 (omega (arith, (accepted _ _ c.requires).some, bands_length c.args.sheet.now))

abbrev IsRead : After-unwrap → Type 0
IsRead c = Read c.args.sheet.now c.unwrap.result.1.now c.unwrap.result.0.now

read_at : (c : After-unwrap) → IsRead c
read_at c = let split = rw c.unwrap.ensures at c.split_last.ensures.cases in read _ _ _ _ c.as_chunks.ensures.front split.0

pub loop-bytes-init : goal.loop-bytes-init
loop-bytes-init c = priced_none _ _

-- a band that is not the last
abbrev AtNext : After-min-end → Type 0
AtNext c = let loop = c.loop-bytes in
    Next c.args.count c.args.sheet.now loop.bytes-index loop.priced loop.total c.from-here.result c.min-end.result

at_next : (c : After-min-end) → AtNext c
at_next c = next (accepted _ _ c.requires) (read_at (goal.at.After-min-end c).After-unwrap) c.loop-bytes.invariant _ c.from-here.ensures c.loop-bytes-test.true _ (omega arith)

pub with_band-total-requires : goal.with_band-total-requires
with_band-total-requires c = let n = at_next (goal.at.with_band-total-requires c).After-min-end in (n.rest, n.fits)

pub loop-bytes-preserved : goal.loop-bytes-preserved
loop-bytes-preserved c = rw c.with_band-total.ensures (at_next (goal.at.loop-bytes-preserved c).After-min-end).then

-- the last
abbrev AtFinal : After-from → Type 0
AtFinal c = let loop = c.loop-bytes in
    Final c.args.count c.args.sheet.now loop.priced loop.total c.from.result

at_final : (c : After-from) → AtFinal c
at_final c = final (accepted _ _ c.requires) (read_at (goal.at.After-from c).After-unwrap) c.loop-bytes.invariant _ (cc) (omega arith)

pub with_band-requires : goal.with_band-requires
with_band-requires c = let f = at_final (goal.at.with_band-requires c).After-from in (f.rest, f.fits)

pub returns : goal.returns
returns c = c.with_band.ensures ∙ (at_final (goal.at.returns c).After-from).all
