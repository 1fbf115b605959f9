-- Laws of the first of the prices that support a dispatch.
use Rattle.std.specs.Prelude.{◌≡◌}
use Rattle.fraction_theory.specs.Fraction.{Fraction}
use Rattle.fraction_theory.specs.Order.{◌≤ℚ◌}
use Rattle.market_model.specs.declared.answered.Duals.{Duals}
use Rattle.market_model.specs.declared.participants.Parts.{Parts}
use Rattle.market_model.specs.Dispatch.{Dispatch}
use Rattle.market_model.specs.Market.{IsMarket}
use Rattle.market_model.specs.Optimality.{ProperDuals, Supports}
use Rattle.one_price.specs.FirstPrices.{AreFirstDuals, EnergyMayCost, IsEnergyPrice, other_prices, with_energy}
use Rattle.one_price.specs.Margins.{IsEnergyByMargins}

-- so the prices that energy may have are those of all proper duals that support the dispatch and have the same other prices
abbrev pub LawOfOtherPrices : Type 0
LawOfOtherPrices = (m : Parts) (d e : Duals Fraction) → IsMarket m → ProperDuals m d → ProperDuals m e → other_prices m d ≡ other_prices m e → e ≡ with_energy d e.energy

abbrev pub LawOfOnePrice : Type 0
LawOfOnePrice = (m : Parts) (x : Dispatch) (d e : Duals Fraction) → IsMarket m → AreFirstDuals m x d → AreFirstDuals m x e → d ≡ e

abbrev pub LawOfEnergyBetween : Type 0
LawOfEnergyBetween = (m : Parts) (x : Dispatch) (d : Duals Fraction) (p q r : Fraction) → EnergyMayCost m x d p → EnergyMayCost m x d q → p ≤ℚ r → r ≤ℚ q
    → EnergyMayCost m x d r

abbrev pub LawOfMargins : Type 0
LawOfMargins = (m : Parts) (x : Dispatch) (d : Duals Fraction) (p : Fraction) → Supports m x d → IsEnergyByMargins m x d p → IsEnergyPrice (EnergyMayCost m x d) p
