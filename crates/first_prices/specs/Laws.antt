-- Laws of the first best points of the system of prices.
use Rattle.std.specs.Prelude.{ℕ}
use Rattle.fraction_theory.specs.Fraction.{Fraction}
use Rattle.optimal_face.specs.FirstPoints.{IsFirstBest}
use Rattle.market_model.specs.declared.answered.Duals.{Duals}
use Rattle.market_model.specs.declared.participants.Parts.{Parts}
use Rattle.market_model.specs.Dispatch.{Dispatch}
use Rattle.market_model.specs.Market.{IsMarket}
use Rattle.market_model.specs.Optimality.{ProperDuals, Supports}
use Rattle.one_price.specs.FirstPrices.{AreFirstDuals, with_energy}
use Rattle.one_price.specs.Margins.{IsEnergyByMargins}
use Rattle.price_system.specs.PriceSystem.{Caps, duals_of, price_order, price_system}
use Rattle.first_prices.specs.FirstCaps.{AreCapsBy, HasFirstPrices, LoseNothing}

-- caps by duals lose nothing
abbrev pub LawOfCaps : Type 0
LawOfCaps = (m : Parts) (x : Dispatch) (e : Duals Fraction) (c : Caps) → IsMarket m → Supports m x e → AreCapsBy m x e c → LoseNothing m x e c

-- for caps that lose nothing of proper duals that support the dispatch, the first best point has the first prices
abbrev pub LawOfFirstPoints : Type 0
LawOfFirstPoints = (m : Parts) (x : Dispatch) (e : Duals Fraction) (c : Caps) (v : ℕ → Fraction) → IsMarket m → ProperDuals m e → Supports m x e → LoseNothing m x e c
    → IsFirstBest (price_system m x c) (price_order m) v → HasFirstPrices m x (duals_of m v)

-- so with the price of energy that blocks tell they are the duals that are printed
abbrev pub LawOfFirstDuals : Type 0
LawOfFirstDuals = (m : Parts) (x : Dispatch) (e : Duals Fraction) (c : Caps) (v : ℕ → Fraction) (p : Fraction) → IsMarket m → ProperDuals m e → Supports m x e → AreCapsBy m x e c
    → IsFirstBest (price_system m x c) (price_order m) v → IsEnergyByMargins m x (duals_of m v) p → AreFirstDuals m x (with_energy (duals_of m v) p)
