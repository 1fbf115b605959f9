use Rattle.market_model.specs.Valued.{duals_at}
use Rattle.bus_prices.specs.PriceParts.{HaveParts}
use Rattle.bus_prices.proofs.PriceLemmas.{congestion_to}
use Rattle.bus_prices.proofs.pricing.prices.Given as goal

abbrev pub invariant-loop-dual : goal.invariant-loop-dual
invariant-loop-dual g l = HaveParts g.N.Exact.value (g.N.Exact.value l.duals.energy) (λ bus. congestion_to l.market (duals_at g.N.Exact.value l.duals) bus l.dual-index) l.out
