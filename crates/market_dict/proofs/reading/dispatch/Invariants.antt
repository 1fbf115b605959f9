use Rattle.std.proofs.Common.{◌≡◌, map}
use Rattle.linear_dict.specs.Dictionaries.{note_of}
use Rattle.market_model.specs.Dispatch.{places}
use Rattle.market_system.specs.MarketSystem.{name}
use Rattle.market_system.specs.declared.variables.Variable.TheVariants.{Block}
use Rattle.market_dict.proofs.reading.dispatch.Given as goal

abbrev pub invariant-loop-block : goal.invariant-loop-block
invariant-loop-block g l = map g.N.Exact.value l.values ≡ map (λ j. (note_of l.dict (name l.market (Block j))).value) (places l.block)
