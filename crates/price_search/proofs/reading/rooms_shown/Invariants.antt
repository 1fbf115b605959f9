use Rattle.std.proofs.Common.{◌≡◌, map, take}
use Rattle.std.specs.List.{flat_map}
use Rattle.market_model.specs.Valued.{room_dual_at}
use Rattle.price_search.specs.Reading.{room_noted}
use Rattle.price_search.proofs.reading.rooms_shown.Given as goal

abbrev pub invariant-loop-place : goal.invariant-loop-place
invariant-loop-place g l = map (room_dual_at g.N.Exact.value) l.rooms ≡ flat_map (room_noted l.market l.dict) (take l.place l.reached.units.now)
