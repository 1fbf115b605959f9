use Rattle.std.specs.Prelude.{◌≡◌, length, map}
use Rattle.market_model.specs.Dispatch.{places}
use Rattle.market_model.specs.Valued.{duals_at, total_at}
use Rattle.bus_prices.proofs.OwnLemmas.{own_to}
use Rattle.bus_prices.proofs.owning.own.Given as goal

abbrev pub invariant-loop-dual : goal.invariant-loop-dual
invariant-loop-dual g l =
    map g.N.Exact.value l.out ≡ map (λ unit. own_to l.market (duals_at g.N.Exact.value l.duals) (total_at g.N.Exact.value l.prices) unit l.dual-index) (places (length l.market.units))
