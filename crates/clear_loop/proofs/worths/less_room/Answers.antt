use Rattle.std.proofs.Common.{◌∙◌, sym}
use Rattle.market_model.specs.Valued.{duals_at}
use Rattle.clear_loop.proofs.FarkasSums.{no_room_price}
use Rattle.clear_loop.proofs.worths.less_room.Goals as goal

pub returns-else-offers_reserve-clause-less : goal.returns-else-offers_reserve-clause-less
returns-else-offers_reserve-clause-less g c =
    no_room_price c.args.market.now (duals_at g.N.Exact.value c.args.duals.now) c.args.unit (g.N.Exact.value c.args.price) (sym c.offers_reserve.ensures ∙ c.if-offers_reserve.false)
