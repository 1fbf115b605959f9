-- What the search for the least prices of a dictionary is handed, and what it finds.
-- Source: lexicographic linear programs (Isermann 1982), for the order in which prices are made least; the form is own.
use Rattle.std.specs.Prelude.{◌≡◌, ◌++◌, List, map}
use Rattle.fraction_theory.specs.Fraction.{Fraction}
use Rattle.linear_dict.specs.Dictionaries.{Dictionary, system_in}
use Rattle.market_model.specs.declared.answered.Duals.{Duals}
use Rattle.market_model.specs.declared.participants.Parts.{Parts}
use Rattle.market_model.specs.Dispatch.{Dispatch}
use Rattle.market_model.specs.Market.{IsMarket}
use Rattle.market_model.specs.Optimality.{ProperDuals, Supports}
use Rattle.optimal_face.specs.FirstPoints.{IsFirstBest}
use Rattle.simplex_core.specs.Outcomes.{ShowsChoice}
use Rattle.simplex_core.specs.States.{state_of}
use Rattle.simplex_core.specs.declared.bounds.Bounds.{Bounds}
use Rattle.simplex_theory.specs.States.{IsSolved}
use Rattle.fewer_columns.specs.Fewer.{with_nil}
use Rattle.price_system.specs.PriceSystem.{Caps, KeepsCaps, column_price, high, low, price_order, price_system, worths}
use Rattle.price_dict.specs.Holding.{HoldsPrices, HoldsPriceSystem}
use Rattle.price_dict.specs.Reached.{columns_put, is_kept}

-- The dictionary holds the prices of a dispatch of the market, these are the prices of its columns and the bounds of its columns and rows, and
-- some proper duals within the caps support the dispatch.
pub record AsksFirst {N : Type 0} (value : N → Fraction) (m : Parts) (x : Dispatch) (c : Caps) (d : Dictionary) (ps : List N) (bs : List (Bounds N)) : Type 0 where
  pub market : IsMarket m
  pub holds : HoldsPrices m x d
  pub prices : map value ps ≡ map column_price (columns_put m x)
  pub lows : map (λ (b : Bounds N). value b.low) bs ≡ map (low m x c) (columns_put m x ++ worths m)
  pub highs : map (λ (b : Bounds N). value b.high) bs ≡ map (high m x c) (columns_put m x ++ worths m)
  pub duals : Duals Fraction
  pub proper : ProperDuals m duals
  pub supported : Supports m x duals
  pub within : KeepsCaps m x c duals

-- it holds the system of prices, with a best point of it
pub record HoldsBestPrices (m : Parts) (x : Dispatch) (c : Caps) (d : Dictionary) : Type 0 where
  pub holds : HoldsPriceSystem m x c d
  pub shows : ShowsChoice d
  pub solved : IsSolved (system_in d) (state_of d)

-- and its point, with 0 for the prices that it does not hold, is the first of the best ones of the whole system
pub record HoldsFirstPrices (m : Parts) (x : Dispatch) (c : Caps) (d : Dictionary) : Type 0 where
  pub holds : HoldsPriceSystem m x c d
  pub first : IsFirstBest (price_system m x c) (price_order m) (with_nil (is_kept m x) (state_of d).value)
