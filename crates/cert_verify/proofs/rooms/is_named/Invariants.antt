use Rattle.std.proofs.Common.{◌≡◌, drop, map}
use Rattle.market_model.specs.Optimality.{names_room}
use Rattle.market_model.specs.Valued.{room_dual_at}
use Rattle.cert_verify.proofs.rooms.is_named.Given as goal

abbrev pub invariant-loop-dual : goal.invariant-loop-dual
invariant-loop-dual g l = names_room (map (room_dual_at g.N.Exact.value) l.rooms) l.row ≡ names_room (map (room_dual_at g.N.Exact.value) (drop l.dual-index l.rooms)) l.row
