-- The objective prices and the bounds of the system of prices in the order of its dictionary.
use Rattle.std.specs.Prelude.{◌≡◌, List, ◌++◌, map}
use Rattle.fraction_theory.specs.Fraction.{Fraction}
use Rattle.market_model.specs.declared.participants.Parts.{Parts}
use Rattle.market_model.specs.Dispatch.{Dispatch, dispatch_with}
use Rattle.simplex_core.specs.declared.bounds.Bounds.{Bounds}
use Rattle.price_system.specs.declared.variables.Variable.{Variable}
use Rattle.price_system.specs.PriceSystem.{Caps, column_price, low, high, worths}
use Rattle.price_dict.specs.Reached.{columns_put}
use Rattle.price_search.specs.declared.point.PricePoint.{PricePoint}
use Rattle.price_search.specs.declared.posing.PriceBounds.{PriceBounds}

-- the dispatch of a point
abbrev pub dispatch_at : {N : Type 0} → (N → Fraction) → PricePoint N → Dispatch
dispatch_at value p = dispatch_with (map value p.accepted.now) (map value p.reserved.now)

-- the bounds of these variables
pub record AreBounds {N : Type 0} (value : N → Fraction) (m : Parts) (x : Dispatch) (c : Caps) (vs : List Variable) (bounds : List (Bounds N)) : Type 0 where
  pub lows : map (λ (b : Bounds N). value b.low) bounds ≡ map (low m x c) vs
  pub highs : map (λ (b : Bounds N). value b.high) bounds ≡ map (high m x c) vs

-- what each column counts, and the bounds of the columns and then of the rows
pub record ArePriceBounds {N : Type 0} (value : N → Fraction) (m : Parts) (x : Dispatch) (c : Caps) (b : PriceBounds N) : Type 0 where
  pub prices : map value b.prices ≡ map column_price (columns_put m x)
  pub lows : map (λ (t : Bounds N). value t.low) b.bounds ≡ map (low m x c) (columns_put m x ++ worths m)
  pub highs : map (λ (t : Bounds N). value t.high) b.bounds ≡ map (high m x c) (columns_put m x ++ worths m)
