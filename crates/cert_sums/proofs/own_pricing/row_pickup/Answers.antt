use Rattle.std.proofs.lemmas.Result.{IfErr-weaker}
use Rattle.market_model.specs.SumTables.{pickup_of_row}
use Rattle.cert_sums.proofs.own_pricing.row_pickup.Goals as goal

pub returns-in-UnitOutage-clause-stops : goal.returns-in-UnitOutage-clause-stops
returns-in-UnitOutage-clause-stops g c = IfErr-weaker c.pickup_factor.result _ _ (λ p h. (_, pickup_of_row c.in-UnitOutage.outage c.in-UnitOutage.is, h)) c.pickup_factor.ensures.stops
