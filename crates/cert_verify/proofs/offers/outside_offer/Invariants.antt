use Rattle.std.proofs.Common.{◌≡◌, List, None, map}
use Rattle.std.specs.List.{find}
use Rattle.fraction_theory.specs.Fraction.{Fraction}
use Rattle.market_model.specs.Dispatch.{dispatch_with, places}
use Rattle.cert_verify.specs.Reasons.{is_offer_beyond}
use Rattle.cert_verify.proofs.offers.outside_offer.Given as goal

abbrev pub invariant-loop-at : goal.invariant-loop-at
invariant-loop-at g l = (blocks : List Fraction) → find (is_offer_beyond l.market (dispatch_with blocks (map g.N.Exact.value l.quantities))) (places l.at) ≡ None
