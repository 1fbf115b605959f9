use Rattle.std.proofs.Common.{◌≡◌, None, take}
use Rattle.std.specs.List.{find}
use Rattle.market_model.specs.Dispatch.{zero}
use Rattle.market_model.specs.Valued.{room_dual_at}
use Rattle.cert_verify.specs.Reasons.{is_below}
use Rattle.cert_verify.proofs.rooms.negative_room.Given as goal

abbrev pub invariant-loop-dual : goal.invariant-loop-dual
invariant-loop-dual g l = find (λ e. is_below (room_dual_at g.N.Exact.value e).price zero) (take l.dual-index l.rooms) ≡ None
