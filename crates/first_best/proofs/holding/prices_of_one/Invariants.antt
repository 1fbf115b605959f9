use Rattle.std.proofs.Common.{◌≡◌, map, take}
use Rattle.optimal_face.specs.Faces.{price_of_one}
use Rattle.first_best.proofs.holding.prices_of_one.Given as goal

abbrev pub invariant-loop-place : goal.invariant-loop-place
invariant-loop-place g l = map g.N.Exact.value l.prices.items ≡ map (price_of_one l.name) (take l.place l.dict.columns)
