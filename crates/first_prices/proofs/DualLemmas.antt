-- First best points with the price of energy that blocks tell have the first duals.
use Rattle.fraction_theory.specs.Fraction.{Fraction}
use Rattle.market_model.specs.declared.answered.Duals.{Duals}
use Rattle.market_model.specs.declared.participants.Parts.{Parts}
use Rattle.one_price.specs.FirstPrices.{GoesBefore, by_price, by_sum, with_energy}
use Rattle.one_price.proofs.MarginLemmas.{law_of_margins, margins_may}
use Rattle.price_system.specs.PriceSystem.{duals_of}
use Rattle.first_prices.specs.Laws.{LawOfFirstDuals}
use Rattle.first_prices.proofs.CapLemmas.{law_of_caps}
use Rattle.first_prices.proofs.PointLemmas.{law_of_first_points, proper_at}

-- what goes before duals at one price of energy goes before them at their own
before_own : (m : Parts) (g d : Duals Fraction) (p : Fraction) → GoesBefore m g (with_energy d p) → GoesBefore m g d
before_own m g d p (by_sum less) = by_sum less
before_own m g d p (by_price k h same before less) = by_price k h same before less

pub law_of_first_duals : LawOfFirstDuals
law_of_first_duals m x e c v p market is holds caps first margins =
    let d : Duals Fraction = duals_of m v in
    let prices = law_of_first_points m x e c v market is holds (law_of_caps m x e c market holds caps) first in
    record {
      supported = margins_may m x d p prices.supported margins;
      proper = proper_at m d p prices.proper;
      first = λ g fits g_is before. prices.first g fits g_is (before_own m g d p before);
      energy = law_of_margins m x d p prices.supported margins;
    }
