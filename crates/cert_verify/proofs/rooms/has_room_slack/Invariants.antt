use Rattle.std.proofs.Common.{◌≡◌, false}
use Rattle.std.specs.Prelude.{◌==◌, ◌&&◌, filter}
use Rattle.std.specs.List.{list_any}
use Rattle.market_model.specs.Dispatch.{places, unit_at}
use Rattle.market_model.specs.Reserves.{offers_reserve, room, room_used}
use Rattle.cert_verify.specs.Certified.{certified_dispatch}
use Rattle.cert_verify.specs.Reasons.{is_slack}
use Rattle.cert_verify.proofs.rooms.has_room_slack.Given as goal

-- none of the units before this one is the dual's with room left
abbrev pub invariant-loop-at : goal.invariant-loop-at
invariant-loop-at g l =
    list_any (λ u. ((unit_at l.market u).row == l.dual.unit)
    && is_slack (g.N.Exact.value l.dual.price) (room_used l.market (certified_dispatch g.N.Exact.value l.dispatch) u) (room l.market u))
    (filter (offers_reserve l.market) (places l.at)) ≡ false
