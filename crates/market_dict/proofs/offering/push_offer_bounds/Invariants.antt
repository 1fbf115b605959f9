use Rattle.std.proofs.Common.{◌≡◌, ◌++◌, map}
use Rattle.market_model.specs.Dispatch.{places, reserve_quantity, zero}
use Rattle.simplex_core.specs.declared.bounds.Bounds.{Bounds}
use Rattle.market_dict.proofs.offering.push_offer_bounds.Given as goal

abbrev pub invariant-loop-offer : goal.invariant-loop-offer
invariant-loop-offer g l = record {
  lows : map (λ (b : Bounds g.row.N.Denot). g.N.Exact.value b.low) l.bounds ≡ map (λ (b : Bounds g.row.N.Denot). g.N.Exact.value b.low) l.initial.bounds ++ map (λ n. zero) (places l.offer-index);
  highs : map (λ (b : Bounds g.row.N.Denot). g.N.Exact.value b.high) l.bounds ≡ map (λ (b : Bounds g.row.N.Denot). g.N.Exact.value b.high) l.initial.bounds ++ map (reserve_quantity l.market) (places l.offer-index);
}
