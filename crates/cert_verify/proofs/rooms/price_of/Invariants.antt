use Rattle.std.proofs.Common.{◌≡◌, drop, map}
use Rattle.market_model.specs.Optimality.{names_room, room_price_in}
use Rattle.market_model.specs.Valued.{room_dual_at}
use Rattle.cert_verify.proofs.rooms.price_of.Given as goal

abbrev pub invariant-loop-dual : goal.invariant-loop-dual
invariant-loop-dual g l = record {
  named : names_room (map (room_dual_at g.N.Exact.value) l.rooms) l.row ≡ names_room (map (room_dual_at g.N.Exact.value) (drop l.dual-index l.rooms)) l.row;
  price : room_price_in (map (room_dual_at g.N.Exact.value) l.rooms) l.row ≡ room_price_in (map (room_dual_at g.N.Exact.value) (drop l.dual-index l.rooms)) l.row;
}
