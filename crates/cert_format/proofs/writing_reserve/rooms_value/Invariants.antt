use Rattle.std.proofs.Common.{◌≡◌, ◌<◌, ◌^◌, map, take, All}
use Rattle.serde_json.specs.View.{view}
use Rattle.market_model.specs.Valued.{room_dual_at}
use Rattle.cert_format.specs.Written.{room_data}
use Rattle.cert_format.proofs.writing_reserve.rooms_value.Given as goal

-- the values so far are those of the rooms before this one, whose units have 32 bits
abbrev pub invariant-loop-dual : goal.invariant-loop-dual
invariant-loop-dual g l = record {
  values : map view l.values.items ≡ map (λ d. room_data (room_dual_at g.N.Exact.value d)) (take l.dual-index l.rooms);
  units : All (λ d. d.unit < 2 ^ 32) (take l.dual-index l.rooms);
}
