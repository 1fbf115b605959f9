use Rattle.std.proofs.Common.{◌≡◌, ◌++◌, map}
use Rattle.market_model.specs.Dispatch.{places}
use Rattle.market_system.specs.declared.variables.Variable.TheVariants.{Offer}
use Rattle.market_system.specs.MarketSystem.{room_coefficient}
use Rattle.market_dict.proofs.entries.push_offer_uses.Given as goal

abbrev pub invariant-loop-offer : goal.invariant-loop-offer
invariant-loop-offer g l = map g.N.Exact.value l.entries ≡ map g.N.Exact.value l.initial.entries ++ map (λ j. room_coefficient l.market l.unit (Offer j)) (places l.offer-index)
