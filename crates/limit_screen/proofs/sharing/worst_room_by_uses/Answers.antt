use Rattle.std.proofs.Common.{length, map, subst, sym}
use Rattle.market_model.specs.Dispatch.{dispatch_with}
use Rattle.market_model.specs.Reserves.{offers_reserve, room_used}
use Rattle.limit_screen.specs.Rooms.{AreRoomsUsed}
use Rattle.limit_screen.proofs.UseLemmas.{have_count}
use Rattle.limit_screen.proofs.sharing.worst_room_by_uses.Goals as goal

pub worst_room_by-requires : goal.worst_room_by-requires
worst_room_by-requires g c =
    let m = c.args.market.now in
    let value = g.N.Exact.value in
    let x = dispatch_with (map value c.args.dispatch.now) (map value c.args.reserve.now) in
    have_count value (offers_reserve m) (room_used m x) (length m.units) c.deref.result.now (subst (AreRoomsUsed value m x) (sym c.deref.ensures.value) c.in_ok-used.ensures.used)
