use Rattle.std.proofs.Common.{◌∙◌, sym}
use Rattle.clear_loop.proofs.FarkasSums.{no_room}
use Rattle.clear_loop.proofs.bounding_reserve.with_room.Goals as goal

pub returns-else-offers_reserve-clause-sum : goal.returns-else-offers_reserve-clause-sum
returns-else-offers_reserve-clause-sum g c = no_room c.args.market.now c.args.unit (g.N.Exact.value c.args.sum) _ (sym c.offers_reserve.ensures ∙ c.if-offers_reserve.false)
