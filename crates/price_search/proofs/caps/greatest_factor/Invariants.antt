use Rattle.std.proofs.Common.{take}
use Rattle.price_search.specs.Caps.{IsGreatestFactor}
use Rattle.price_search.proofs.caps.greatest_factor.Given as goal

abbrev pub invariant-loop-row : goal.invariant-loop-row
invariant-loop-row g l = IsGreatestFactor l.market (take l.row-index l.reached) (g.N.Exact.value l.greatest)
