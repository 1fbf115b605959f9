use Rattle.std.proofs.Common.{◌≡◌}
use Rattle.market_model.specs.Valued.{duals_at}
use Rattle.clear_loop.proofs.FarkasSums.{offers_to}
use Rattle.clear_loop.proofs.bounding_reserve.with_offers.Given as goal

abbrev pub invariant-loop-offer : goal.invariant-loop-offer
invariant-loop-offer g l = g.N.Exact.value l.sum ≡ offers_to l.market (duals_at g.N.Exact.value l.duals) l.offer-index
