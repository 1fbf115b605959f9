use Rattle.std.proofs.Common.{◌≡◌, drop, map}
use Rattle.market_model.specs.Valued.{room_dual_at}
use Rattle.cert_verify.specs.Reasons.{unit_reason}
use Rattle.cert_verify.proofs.rooms.missing_unit.Given as goal

-- the first among those that are left is the first of all
abbrev pub invariant-loop-at : goal.invariant-loop-at
invariant-loop-at g l = unit_reason l.market (map (room_dual_at g.N.Exact.value) l.rooms) ≡ unit_reason l.market (map (room_dual_at g.N.Exact.value) (drop l.at l.rooms))
