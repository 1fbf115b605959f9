use Rattle.std.proofs.Common.{◌≡◌, ◌∙◌, ap, arith, length}
use Rattle.market_model.specs.LimitRows.{lost_unit}
use Rattle.bus_prices.proofs.OwnLemmas.{own_read}
use Rattle.settlement.proofs.ListLemmas.{put_place}
use Rattle.settlement.proofs.units.lost_prices.Goals as goal

pub loop-outage-preserved : goal.loop-outage-preserved
loop-outage-preserved g c =
    let m = c.args.market.now in
    let value = g.N.Exact.value in
    let k = c.loop-outage.outage in
    λ price own.
    put_place value (λ i. price (lost_unit m i)) c.loop-outage.lost c.push.new.self c.index-own-lost_unit.result k c.in_ok-push.ensures (c.loop-outage.invariant price own)
    (own_read value price (length m.units) c.lost_unit.result c.args.own.now c.index-own-lost_unit.result c.requires c.lost_unit.ensures.inside own c.index-own-lost_unit.is ∙ ap price c.lost_unit.ensures.is)

pub returns : goal.returns
returns g c =
    let all : c.loop-outage.outage ≡ length c.args.market.now.unit_outages = omega (arith, ap length c.unit_outages.ensures.list) in
    rw all at c.loop-outage.invariant
