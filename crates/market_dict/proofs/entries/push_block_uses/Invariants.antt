use Rattle.std.proofs.Common.{◌≡◌, ◌++◌, map}
use Rattle.market_model.specs.Dispatch.{places}
use Rattle.market_system.specs.declared.variables.Variable.TheVariants.{Block}
use Rattle.market_system.specs.MarketSystem.{room_coefficient}
use Rattle.market_dict.proofs.entries.push_block_uses.Given as goal

abbrev pub invariant-loop-block : goal.invariant-loop-block
invariant-loop-block g l = map g.N.Exact.value l.entries ≡ map g.N.Exact.value l.initial.entries ++ map (λ j. room_coefficient l.market l.unit (Block j)) (places l.block-index)
