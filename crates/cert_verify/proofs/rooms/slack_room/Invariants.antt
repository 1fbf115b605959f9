use Rattle.std.proofs.Common.{◌≡◌, None, take}
use Rattle.std.specs.List.{find}
use Rattle.market_model.specs.Valued.{room_dual_at}
use Rattle.cert_verify.specs.Certified.{certified_dispatch}
use Rattle.cert_verify.specs.Reasons.{has_room_slack}
use Rattle.cert_verify.proofs.rooms.slack_room.Given as goal

abbrev pub invariant-loop-dual : goal.invariant-loop-dual
invariant-loop-dual g l =
    find (λ e. has_room_slack l.market (certified_dispatch g.N.Exact.value l.dispatch) (room_dual_at g.N.Exact.value e)) (take l.dual-index l.rooms) ≡ None
