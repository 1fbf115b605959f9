use Rattle.std.proofs.Common.{take}
use Rattle.market_dict.specs.PricesAndBounds.{ArePricesAndBounds}
use Rattle.market_dict.proofs.posing.prices_and_bounds.Given as goal

abbrev pub invariant-loop-taking : goal.invariant-loop-taking
invariant-loop-taking g l = ArePricesAndBounds g.N.Exact.value l.market (take l.taking-index l.taken) l.posing
