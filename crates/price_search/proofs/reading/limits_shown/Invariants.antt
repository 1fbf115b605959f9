use Rattle.std.proofs.Common.{◌≡◌, map, take}
use Rattle.std.specs.List.{flat_map}
use Rattle.market_model.specs.Valued.{dual_at}
use Rattle.price_search.specs.Reading.{limit_noted}
use Rattle.price_search.proofs.reading.limits_shown.Given as goal

abbrev pub invariant-loop-place : goal.invariant-loop-place
invariant-loop-place g l = map (dual_at g.N.Exact.value) l.limits ≡ flat_map (limit_noted l.market l.dict) (take l.place l.reached.rows.now)
