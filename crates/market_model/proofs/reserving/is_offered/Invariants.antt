use Rattle.std.proofs.Common.{◌≡◌, drop}
use Rattle.market_model.specs.Reserves.{offers_among}
use Rattle.market_model.proofs.reserving.is_offered.Given as goal

abbrev pub invariant-loop-offer : goal.invariant-loop-offer
invariant-loop-offer l = offers_among l.offers l.unit ≡ offers_among (drop l.offer-index l.offers) l.unit
