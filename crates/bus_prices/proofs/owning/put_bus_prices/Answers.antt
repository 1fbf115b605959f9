use Rattle.std.proofs.Common.{◌∙◌, ◌<◌, ap, arith, length, refl, sym}
use Rattle.market_data.specs.declared.participants.Unit as unit
use Rattle.market_model.specs.Dispatch.{unit_at}
use Rattle.market_model.specs.Valued.{total_at}
use Rattle.market_model.proofs.MarketSums.{unit_bus-in}
use Rattle.market_model.proofs.PlaceLists.{all_put, put_more}
use Rattle.market_model.proofs.PutInSteps.{unit_read}
use Rattle.bus_prices.proofs.OwnLemmas.{price_is}
use Rattle.bus_prices.proofs.owning.put_bus_prices.Goals as goal

pub loop-unit-preserved : goal.loop-unit-preserved
loop-unit-preserved g c =
    let m = c.args.market.now in
    let value = g.N.Exact.value in
    let prices = c.args.prices.now in
    let k = c.loop-unit.unit in
    let inside : k < length m.units = omega (arith, c.loop-unit-test.true, c.loop-unit.auto.out, c.requires.out) in
    let read = unit_read m c.units.result.now k k c.at.result.now c.units.ensures.list refl c.at.ensures in
    let bus = unit_bus-in m c.units.ensures.market k inside in
    let at = ap (λ (v : unit.Unit). v.bus) read in
    put_more value (λ u. total_at value prices (unit_at m u).bus) c.loop-unit.out k _ (omega (arith, c.loop-unit-test.true)) c.loop-unit.invariant
    (sym (price_is value prices c.at.result.now.bus _ (omega (arith, c.requires.prices, bus, at))) ∙ ap (λ i. total_at value prices i) at)

pub returns-clause-prices : goal.returns-clause-prices
returns-clause-prices g c =
    let m = c.args.market.now in
    let value = g.N.Exact.value in
    all_put value (λ u. total_at value c.args.prices.now (unit_at m u).bus) c.loop-unit.out c.loop-unit.unit (length m.units)
    (c.loop-unit.auto.out ∙ c.requires.out) (omega (arith, c.loop-unit-test.false, c.requires.out)) c.loop-unit.invariant
