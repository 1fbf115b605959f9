use Rattle.std.proofs.Common.{◌≡◌, map}
use Rattle.market_model.specs.Dispatch.{places}
use Rattle.market_model.specs.Optimality.{block_value}
use Rattle.market_dict.proofs.posing.block_prices.Given as goal

abbrev pub invariant-loop-block : goal.invariant-loop-block
invariant-loop-block g l = map g.N.Exact.value l.prices ≡ map (block_value l.market) (places l.block-index)
