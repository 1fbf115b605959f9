-- The prices and bounds of a market's system in a dictionary's order, with the flows that they are made from.
use Rattle.std.specs.Prelude.{◌≡◌, List, map}
use Rattle.fraction_theory.specs.Fraction.{Fraction}
use Rattle.market_model.specs.declared.participants.Parts.{Parts}
use Rattle.market_model.specs.Dispatch.{empty}
use Rattle.limit_screen.specs.Flows.{flows_at}
use Rattle.market_system.specs.declared.variables.Variable.{Variable}
use Rattle.market_system.specs.MarketSystem.{low, high}
use Rattle.simplex_core.specs.declared.bounds.Bounds.{Bounds}
use Rattle.market_dict.specs.Holding.{column_prices}
use Rattle.market_dict.specs.declared.posing.PricesAndBounds.{PricesAndBounds}
use Rattle.market_dict.specs.declared.taking.Taking.{Taking}
use Rattle.market_dict.specs.Takings.{columns_put, rows_put}

-- the bounds of these variables
pub record AreBounds {N : Type 0} (value : N → Fraction) (m : Parts) (vs : List Variable) (bounds : List (Bounds N)) : Type 0 where
  pub lows : map (λ (b : Bounds N). value b.low) bounds ≡ map (low m) vs
  pub highs : map (λ (b : Bounds N). value b.high) bounds ≡ map (high m) vs

-- the prices and bounds of the market over these limits and rooms, and its flows where nothing is accepted
pub record ArePricesAndBounds {N : Type 0} (value : N → Fraction) (m : Parts) (ts : List Taking) (t : PricesAndBounds N) : Type 0 where
  pub prices : map value t.prices ≡ column_prices m ts
  pub columns : AreBounds value m (columns_put m ts) t.column_bounds
  pub rows : AreBounds value m (rows_put m ts) t.row_bounds
  pub base_flows : map value t.base_flows.items ≡ flows_at m (empty m)
