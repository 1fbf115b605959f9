-- Reserve is paid its price for what is needed.
use Rattle.std.proofs.Common.{ap, sym, ◌∙◌}
use Rattle.fraction_theory.specs.Fraction.{◌*ℚ◌}
use Rattle.fraction_theory.proofs.SumLaws.{sum_by-times}
use Rattle.market_model.specs.Dispatch.{reserved}
use Rattle.market_model.specs.Reserves.{offer_places}
use Rattle.market_model.specs.Laws.{LawOfTheReserve}
use Rattle.market_model.proofs.ReserveSums.{reserve-by_offers, reserve-supported}

pub law_of_the_reserve : LawOfTheReserve
law_of_the_reserve m d x h f s =
    sum_by-times d.reserve (reserved x) (offer_places m)
    ∙ ap (λ t. d.reserve *ℚ t) (sym (reserve-by_offers m x))
    ∙ reserve-supported m x d s.need
