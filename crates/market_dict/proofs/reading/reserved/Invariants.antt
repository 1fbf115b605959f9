use Rattle.std.proofs.Common.{◌≡◌, map}
use Rattle.linear_dict.specs.Dictionaries.{note_of}
use Rattle.market_model.specs.Dispatch.{places}
use Rattle.market_system.specs.MarketSystem.{name}
use Rattle.market_system.specs.declared.variables.Variable.TheVariants.{Offer}
use Rattle.market_dict.proofs.reading.reserved.Given as goal

abbrev pub invariant-loop-offer : goal.invariant-loop-offer
invariant-loop-offer g l = map g.N.Exact.value l.values ≡ map (λ j. (note_of l.dict (name l.market (Offer j))).value) (places l.offer)
