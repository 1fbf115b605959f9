use Rattle.std.proofs.Common.{length, map, subst, sym}
use Rattle.market_model.specs.Dispatch.{dispatch_with}
use Rattle.market_model.specs.Reserves.{offers_reserve, room_used}
use Rattle.limit_screen.specs.Rooms.{AreRoomsUsed}
use Rattle.limit_screen.proofs.UseLemmas.{have_count}
use Rattle.limit_screen.proofs.reaching.used_up.Goals as goal

pub used_up_by-requires : goal.used_up_by-requires
used_up_by-requires g c =
    let m = c.args.market.now in
    let value = g.N.Exact.value in
    let x = dispatch_with (map value c.args.dispatch.now) (map value c.args.reserve.now) in
    have_count value (offers_reserve m) (room_used m x) (length m.units) c.deref.result.now (subst (AreRoomsUsed value m x) (sym c.deref.ensures.value) c.in_ok-used.ensures.used)
