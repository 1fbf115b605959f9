use Rattle.std.proofs.Common.{rules, Err, ◌≡◌, ◌<◌, ◌∙◌, ap, length, refl, subst, sym}
use Rattle.std.proofs.lemmas.Result.{IfErr-weaker}
use Rattle.market_data.specs.declared.participants.Unit as unit
use Rattle.market_model.specs.Optimality.{bus_price, unit_price}
use Rattle.market_model.specs.Valued.{passed_at}
use Rattle.market_model.proofs.MarketSums.{unit_bus-in}
use Rattle.market_model.proofs.PutInSteps.{unit_read}
use Rattle.cert_sums.proofs.NamedLemmas.{bus_in_unit, own_in_unit}
use Rattle.cert_sums.proofs.pricing.unit_price.Goals as goal

pub bus_price-requires-clause-bus : goal.bus_price-requires-clause-bus
bus_price-requires-clause-bus g c =
    let m = c.args.market.now in
    let read = unit_read m c.units.result.now c.args.unit c.args.unit c.at.result.now c.units.ensures.list refl c.at.ensures in
    subst (λ (v : unit.Unit). v.bus < length m.buses) (sym read) (unit_bus-in m c.units.ensures.market c.args.unit c.requires.unit)

pub returns-in_err-at_bus-clause-stops : goal.returns-in_err-at_bus-clause-stops
returns-in_err-at_bus-clause-stops g c = λ d energy are.
    let m = c.args.market.now in
    let read = unit_read m c.units.result.now c.args.unit c.args.unit c.at.result.now c.units.ensures.list refl c.at.ensures in
    let inside : c.at.result.now.bus < length m.buses = subst (λ (v : unit.Unit). v.bus < length m.buses) (sym read) (unit_bus-in m c.units.ensures.market c.args.unit c.requires.unit) in
    let given : c.from_residual.result ≡ Err c.in_err-at_bus.field-0.0 = search rules in
    rw given (bus_in_unit m d c.at.result.now.bus g.N.Exact.bound (passed_at g.N.Exact.value c.in_err-at_bus.field-0.0) inside (c.in_err-at_bus.ensures.stops d energy are))

pub returns-clause-price : goal.returns-clause-price
unfolding unit_price
returns-clause-price g c = λ d energy are.
    let m = c.args.market.now in
    let read = unit_read m c.units.result.now c.args.unit c.args.unit c.at.result.now c.units.ensures.list refl c.at.ensures in
    c.own_price.ensures.price d (bus_price m d) are (c.in_ok-at_bus.ensures.price d energy are ∙ ap (λ (v : unit.Unit). bus_price m d v.bus) read)

pub returns-clause-stops : goal.returns-clause-stops
returns-clause-stops g c = λ d energy are.
    let m = c.args.market.now in
    let read = unit_read m c.units.result.now c.args.unit c.args.unit c.at.result.now c.units.ensures.list refl c.at.ensures in
    IfErr-weaker c.own_price.result _ _ (λ p h. own_in_unit m d g.N.Exact.bound (passed_at g.N.Exact.value p) h)
    (c.own_price.ensures.stops d (bus_price m d) are (c.in_ok-at_bus.ensures.price d energy are ∙ ap (λ (v : unit.Unit). bus_price m d v.bus) read))
