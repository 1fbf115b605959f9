use Rattle.std.specs.Prelude.{◌<◌, length, [], ◌∷◌, refl}
use Rattle.std.proofs.Common.{◌∙◌, ap, subst, sym}
use Rattle.std.proofs.lemmas.Result.{IfOk-weaker, IfErr-weaker}
use Rattle.fraction_theory.specs.Fraction.{neg_ℚ}
use Rattle.fraction_theory.specs.Sums.{Plain}
use Rattle.market_data.specs.declared.participants.Unit as unit
use Rattle.market_model.specs.Dispatch.{unit_at}
use Rattle.market_model.specs.LimitRows.{lost_unit, row_factor, shift_factor, taker_terms}
use Rattle.market_model.specs.SumTables.{factor_at_bus, factor_of_pickup, pickup_of_row, factor_of_bus}
use Rattle.market_model.specs.Valued.{passed_at}
use Rattle.market_model.proofs.MarketSums.{unit_bus-in}
use Rattle.market_model.proofs.PutInSteps.{unit_read}
use Rattle.limit_rows.proofs.PickupSteps.{factor_lost, factor_not_lost, refused_in_front}
use Rattle.limit_rows.proofs.factors.unit_factor.Goals as goal

pub returns-in-Some-clause-factor : goal.returns-in-Some-clause-factor
returns-in-Some-clause-factor g c =
    IfOk-weaker c.taker_factor.result _ _ (λ factor e. e ∙ factor_lost c.args.market.now c.args.row c.args.unit c.in-Some.outage c.in-Some.ensures.0 c.in-Some.ensures.2) c.taker_factor.ensures.factor

pub returns-in-Some-clause-stops : goal.returns-in-Some-clause-stops
returns-in-Some-clause-stops g c =
    let m = c.args.market.now in
    let l = c.args.row.line in
    let k = c.in-Some.outage in
    IfErr-weaker c.taker_factor.result _ _
    (λ e why. (
      _,
      factor_of_pickup _ (pickup_of_row k c.in-Some.ensures.0),
      refused_in_front (taker_terms m l k) (Plain (neg_ℚ (shift_factor m l (unit_at m (lost_unit m k)).bus)) ∷ []) g.N.Exact.bound (passed_at g.N.Exact.value e) why,
    ))
    c.taker_factor.ensures.stops

pub row_factor-requires-clause-bus : goal.row_factor-requires-clause-bus
row_factor-requires-clause-bus g c =
    let m = c.args.market.now in
    let read = unit_read m c.units.result.now c.args.unit c.args.unit c.at.result.now c.units.ensures.list refl c.at.ensures in
    subst (λ (v : unit.Unit). v.bus < length m.buses) (sym read) (unit_bus-in m c.units.ensures.market c.args.unit c.requires.unit)

pub returns-in-None-clause-factor : goal.returns-in-None-clause-factor
returns-in-None-clause-factor g c =
    let m = c.args.market.now in
    let read = unit_read m c.units.result.now c.args.unit c.args.unit c.at.result.now c.units.ensures.list refl c.at.ensures in
    IfOk-weaker c.row_factor.result _ _
    (λ factor e. e ∙ ap (λ (v : unit.Unit). row_factor m c.args.row v.bus) read ∙ factor_not_lost m c.args.row c.args.unit c.in-None.ensures) c.row_factor.ensures.factor

pub returns-in-None-clause-stops : goal.returns-in-None-clause-stops
returns-in-None-clause-stops g c =
    let m = c.args.market.now in
    let read = unit_read m c.units.result.now c.args.unit c.args.unit c.at.result.now c.units.ensures.list refl c.at.ensures in
    let inside = subst (λ (v : unit.Unit). v.bus < length m.buses) (sym read) (unit_bus-in m c.units.ensures.market c.args.unit c.requires.unit) in
    IfErr-weaker c.row_factor.result _ _ (λ e why. (_, factor_of_bus _ (factor_at_bus c.at.result.now.bus inside), why)) c.row_factor.ensures.stops
