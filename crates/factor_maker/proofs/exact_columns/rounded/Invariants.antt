use Rattle.std.proofs.Common.{take}
use Rattle.std.specs.List.{AllZip}
use Rattle.exact_fraction.specs.Nearest.{IsNearest}
use Rattle.market_data.specs.Scales.{place_count}
use Rattle.factor_maker.proofs.exact_columns.rounded.Given as goal

abbrev pub invariant-loop-place : goal.invariant-loop-place
invariant-loop-place g l = AllZip (λ factor units. IsNearest (place_count l.places) (g.N.Exact.value factor) units) (take l.place l.factors) l.units
