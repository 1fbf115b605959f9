use Rattle.std.proofs.Common.{◌≡◌, drop, map}
use Rattle.market_model.specs.Optimality.{room_price_in}
use Rattle.market_model.specs.Valued.{room_dual_at}
use Rattle.clear_loop.proofs.worths.priced_room.Given as goal

abbrev pub invariant-loop-dual : goal.invariant-loop-dual
invariant-loop-dual g l = room_price_in (map (room_dual_at g.N.Exact.value) l.rooms) l.row ≡ room_price_in (map (room_dual_at g.N.Exact.value) (drop l.dual-index l.rooms)) l.row
