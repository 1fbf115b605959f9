use Rattle.std.proofs.Common.{◌≡◌, List, None, map}
use Rattle.std.specs.List.{find}
use Rattle.fraction_theory.specs.Fraction.{Fraction}
use Rattle.market_model.specs.declared.answered.Duals.{Duals}
use Rattle.market_model.specs.Dispatch.{dispatch_with, places}
use Rattle.cert_sums.specs.Named.{AreNamedRooms}
use Rattle.cert_verify.specs.Reasons.{is_offer_unsupported}
use Rattle.cert_verify.proofs.offers.unsupported_offer.Given as goal

abbrev pub invariant-loop-at : goal.invariant-loop-at
invariant-loop-at g l =
    (d : Duals Fraction) (blocks : List Fraction) → g.N.Exact.value l.reserve_price ≡ d.reserve → AreNamedRooms g.N.Exact.value l.market d l.rooms
    → find (is_offer_unsupported l.market (dispatch_with blocks (map g.N.Exact.value l.quantities)) d) (places l.at) ≡ None
