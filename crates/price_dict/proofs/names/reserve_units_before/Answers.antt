use Rattle.std.proofs.Common.{◌∙◌, sym, arith}
use Rattle.price_dict.proofs.NamePlaces.{before_few, none_before, one_before}
use Rattle.price_dict.proofs.names.reserve_units_before.Goals as goal
use Rattle.price_dict.proofs.names.reserve_units_before.Goals.{then-offers_reserve, else-offers_reserve}

pub overflow_add-count : goal.overflow_add-count
overflow_add-count c = omega (arith, c.loop-unit.invariant, before_few c.args.market.now c.loop-unit.unit)

pub loop-unit-preserved : goal.loop-unit-preserved
loop-unit-preserved c =
    let m = c.args.market.now in
    let k = c.loop-unit.unit in
    elim c.if-offers_reserve.branch [
      | then-offers_reserve w ↦ let more = one_before m k (sym c.offers_reserve.ensures ∙ w.if-offers_reserve.true) in omega (arith, more, c.loop-unit.invariant, w.count-is)
      | else-offers_reserve w ↦ let more = none_before m k (sym c.offers_reserve.ensures ∙ w.if-offers_reserve.false) in omega (arith, more, c.loop-unit.invariant, w.count-is)
    ]

pub returns-clause-few : goal.returns-clause-few
returns-clause-few c = omega (arith, c.loop-unit.invariant, before_few c.args.market.now c.loop-unit.unit)
