-- Laws of the search for first prices.
use Rattle.std.specs.Prelude.{ℕ}
use Rattle.fraction_theory.specs.Fraction.{Fraction}
use Rattle.exact_fraction.specs.declared.Passed.{Passed}
use Rattle.market_model.specs.declared.answered.Duals.{Duals}
use Rattle.market_model.specs.declared.participants.Parts.{Parts}
use Rattle.market_model.specs.Dispatch.{Dispatch}
use Rattle.price_search.specs.Numbers.{SearchNumbersFit}
use Rattle.price_search.specs.Settling.{IsPriceRefusal}

-- where no number that the way to first prices may have to write down is too large, no operation is refused on it
abbrev pub LawOfSearchNumbers : Type 0
LawOfSearchNumbers = (m : Parts) (x : Dispatch) (e : Duals Fraction) (bound : ℕ) (p : Passed Fraction) → SearchNumbersFit m x e bound → ¬ (IsPriceRefusal m x e bound p)
