-- Laws of the prices that support a dispatch as points of a system.
use Rattle.std.specs.Prelude.{◌≡◌, ℕ, ◌∷◌, [], ◌++◌, map}
use Rattle.fraction_theory.specs.Fraction.{Fraction, neg_ℚ}
use Rattle.fraction_theory.specs.Order.{◌≤ℚ◌}
use Rattle.linear_system.specs.Systems.{InBounds, IsSystem, MeetsRows, objective}
use Rattle.market_model.specs.declared.answered.Duals.{Duals}
use Rattle.market_model.specs.declared.participants.Parts.{Parts}
use Rattle.market_model.specs.Dispatch.{Dispatch}
use Rattle.market_model.specs.Market.{IsMarket}
use Rattle.market_model.specs.Optimality.{ProperDuals, Supports}
use Rattle.one_price.specs.FirstPrices.{other_prices, sum_of_prices}
use Rattle.simplex_theory.specs.States.{IsBest}
use Rattle.price_system.specs.PriceSystem.{Caps, KeepsCaps, duals_of, point_of, price_order, price_system}

abbrev pub LawOfTheSystem : Type 0
LawOfTheSystem = (m : Parts) (x : Dispatch) (c : Caps) → IsMarket m → IsSystem (price_system m x c)

abbrev pub LawOfPoints : Type 0
LawOfPoints = (m : Parts) (x : Dispatch) (c : Caps) (v : ℕ → Fraction) → IsMarket m → MeetsRows (price_system m x c) v → InBounds (price_system m x c) v
    → Supports m x (duals_of m v)

pub record IsPointOf (m : Parts) (x : Dispatch) (c : Caps) (d : Duals Fraction) (v : ℕ → Fraction) : Type 0 where
  pub rows : MeetsRows (price_system m x c) v
  pub bounds : InBounds (price_system m x c) v
  pub back : duals_of m v ≡ d

abbrev pub LawOfDuals : Type 0
LawOfDuals = (m : Parts) (x : Dispatch) (c : Caps) (d : Duals Fraction) → IsMarket m → ProperDuals m d → Supports m x d → KeepsCaps m x c d
    → IsPointOf m x c d (point_of m d)

abbrev pub LawOfTheSum : Type 0
LawOfTheSum = (m : Parts) (x : Dispatch) (c : Caps) (v : ℕ → Fraction) → IsMarket m → objective (price_system m x c) v ≡ neg_ℚ (sum_of_prices m (duals_of m v))

-- The duals of a best point are proper, and no proper duals within the caps that support the dispatch have a lesser sum of prices.
pub record HasLeastPrices (m : Parts) (x : Dispatch) (c : Caps) (v : ℕ → Fraction) : Type 0 where
  pub proper : ProperDuals m (duals_of m v)
  pub least : (e : Duals Fraction) → ProperDuals m e → Supports m x e → KeepsCaps m x c e → sum_of_prices m (duals_of m v) ≤ℚ sum_of_prices m e

abbrev pub LawOfBestPoints : Type 0
LawOfBestPoints = (m : Parts) (x : Dispatch) (c : Caps) (v : ℕ → Fraction) → IsMarket m → IsBest (price_system m x c) v → HasLeastPrices m x c v

-- in the order in which they are made least, the prices of a point are those of its duals, and energy's at last
abbrev pub LawOfTheOrder : Type 0
LawOfTheOrder = (m : Parts) (v : ℕ → Fraction) → IsMarket m → map (λ w. neg_ℚ (v w)) (price_order m) ≡ other_prices m (duals_of m v) ++ (neg_ℚ (v 0) ∷ [])
