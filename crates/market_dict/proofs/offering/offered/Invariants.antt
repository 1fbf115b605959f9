use Rattle.std.proofs.Common.{◌≡◌, map}
use Rattle.fraction_theory.specs.Sums.{total}
use Rattle.market_model.specs.Dispatch.{places}
use Rattle.market_dict.proofs.OfferLemmas.{offered_term}
use Rattle.market_dict.proofs.offering.offered.Given as goal

abbrev pub invariant-loop-offer : goal.invariant-loop-offer
invariant-loop-offer g l = g.N.Exact.value l.mw ≡ total (map (offered_term l.market) (places l.offer-index))
