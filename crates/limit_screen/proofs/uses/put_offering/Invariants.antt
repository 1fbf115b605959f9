use Rattle.std.proofs.Common.{length, take}
use Rattle.market_model.specs.Dispatch.{zero}
use Rattle.market_model.specs.Reserves.{offers_among}
use Rattle.limit_screen.specs.Rooms.{HaveSums}
use Rattle.limit_screen.proofs.uses.put_offering.Given as goal

abbrev pub invariant-loop-offer : goal.invariant-loop-offer
invariant-loop-offer g l = HaveSums g.N.Exact.value (offers_among (take l.offer-index l.offer-items)) (λ unit. zero) (length l.market.units) l.used
