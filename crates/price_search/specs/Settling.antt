-- The prices that are to be printed at a dispatch: what they are found by, and which operations may be refused on the way.
-- Source: own.
use Rattle.std.specs.Prelude.{ℕ}
use Rattle.fraction_theory.specs.Fraction.{Fraction}
use Rattle.exact_fraction.specs.declared.Passed.{Passed}
use Rattle.linear_system.specs.Pairs.{IsSystemPair}
use Rattle.market_model.specs.declared.answered.Duals.{Duals}
use Rattle.market_model.specs.declared.participants.Parts.{Parts}
use Rattle.market_model.specs.Dispatch.{Dispatch}
use Rattle.market_model.specs.Optimality.{ProperDuals, Supports}
use Rattle.market_model.specs.SumTables.{IsRefusedAmong, RoomSum}
use Rattle.optimal_face.specs.FirstPoints.{IsFirstBest}
use Rattle.first_prices.specs.FirstCaps.{AreCapsBy}
use Rattle.price_system.specs.PriceSystem.{Caps, KeepsCaps, duals_of, price_order, price_system}
use Rattle.price_dict.specs.Reached.{reached_system}
use Rattle.price_dict.specs.Refusals.{IsEntriesRefusal}
use Rattle.price_search.specs.Caps.{ArePriceCaps, IsCapsRefusal}
use Rattle.price_search.specs.Energy.{IsEnergyRefusal}
use Rattle.price_search.specs.Points.{IsPointOf}
use Rattle.price_search.specs.PriceBounds.{ArePriceBounds}
use Rattle.price_search.specs.Refusals.{IsBoundsRefusal}
use Rattle.price_search.specs.declared.point.PricePoint.{PricePoint}
use Rattle.price_search.specs.declared.posing.PriceBounds.{PriceBounds}

-- some proper duals within the caps support the dispatch
pub record IsSupportedWithin (m : Parts) (x : Dispatch) (c : Caps) : Type 0 where
  pub duals : Duals Fraction
  pub proper : ProperDuals m duals
  pub supported : Supports m x duals
  pub within : KeepsCaps m x c duals

-- these are the prices and the bounds of the system of prices of a dispatch, within whose caps some proper duals support it
pub record IsPosed {N : Type 0} (value : N → Fraction) (m : Parts) (x : Dispatch) (c : Caps) (p : PricePoint N) (b : PriceBounds N) : Type 0 where
  pub point : IsPointOf value m x p
  pub supported : IsSupportedWithin m x c
  pub posing : ArePriceBounds value m x c b

-- some proper duals support it of which the caps lose nothing
pub record HasCaps (m : Parts) (x : Dispatch) (c : Caps) : Type 0 where
  pub duals : Duals Fraction
  pub proper : ProperDuals m duals
  pub supported : Supports m x duals
  pub caps : AreCapsBy m x duals c

-- an operation refused where the first best point of the system of prices is found: in a factor, for a bound, or in the system without the prices that have to be 0
pub data IsPointRefusal (m : Parts) (x : Dispatch) (c : Caps) (bound : ℕ) (p : Passed Fraction) : Type 0 where
  of_entries : IsEntriesRefusal m x bound p → IsPointRefusal m x c bound p
  of_bounds : IsBoundsRefusal m x c bound p → IsPointRefusal m x c bound p
  of_pair : IsSystemPair (reached_system m x c) bound p.op p.left p.right → IsPointRefusal m x c bound p

-- where by caps the prices that are to be printed are found
pub data IsSearchRefusal (m : Parts) (x : Dispatch) (c : Caps) (bound : ℕ) (p : Passed Fraction) : Type 0 where
  of_point : IsPointRefusal m x c bound p → IsSearchRefusal m x c bound p
  of_energy : (v : ℕ → Fraction) → IsFirstBest (price_system m x c) (price_order m) v → IsEnergyRefusal m x (duals_of m v) bound p → IsSearchRefusal m x c bound p

-- on the way to them: in what a unit uses of its room, or in or by caps that are made of duals which support the dispatch
pub data IsPriceRefusal (m : Parts) (x : Dispatch) (e : Duals Fraction) (bound : ℕ) (p : Passed Fraction) : Type 0 where
  of_rooms : IsRefusedAmong (RoomSum m x) bound p → IsPriceRefusal m x e bound p
  of_caps : IsCapsRefusal m x e bound p → IsPriceRefusal m x e bound p
  of_search : (c : Caps) → ArePriceCaps m x e c → IsSearchRefusal m x c bound p → IsPriceRefusal m x e bound p
