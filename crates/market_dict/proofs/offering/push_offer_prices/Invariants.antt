use Rattle.std.proofs.Common.{◌≡◌, ◌++◌, map}
use Rattle.market_model.specs.Dispatch.{places}
use Rattle.market_system.specs.declared.variables.Variable.TheVariants.{Offer}
use Rattle.market_system.specs.MarketSystem.{objective_price}
use Rattle.market_dict.proofs.offering.push_offer_prices.Given as goal

abbrev pub invariant-loop-offer : goal.invariant-loop-offer
invariant-loop-offer g l = map g.N.Exact.value l.prices ≡ map g.N.Exact.value l.initial.prices ++ map (λ n. objective_price l.market (Offer n)) (places l.offer-index)
