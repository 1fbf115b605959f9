use Rattle.std.proofs.Common.{◌≡◌, map}
use Rattle.market_model.specs.Dispatch.{places}
use Rattle.market_system.specs.MarketSystem.{block_sign}
use Rattle.market_dict.proofs.entries.block_signs.Given as goal

abbrev pub invariant-loop-block : goal.invariant-loop-block
invariant-loop-block g l = map g.N.Exact.value l.entries ≡ map (block_sign l.market) (places l.block-index)
