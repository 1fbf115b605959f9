-- Which operations are refused where the bounds of the system of prices are made.
use Rattle.std.specs.Prelude.{ℕ, Contains, pos}
use Rattle.fraction_theory.specs.Fraction.{Fraction, whole, ◌+ℚ◌, ◌*ℚ◌}
use Rattle.exact_fraction.specs.declared.Op.TheVariants.{Plus, Times}
use Rattle.exact_fraction.specs.declared.Passed.{Passed}
use Rattle.market_model.specs.declared.limits.Row.{Row}
use Rattle.market_model.specs.declared.participants.Parts.{Parts}
use Rattle.market_model.specs.Dispatch.{Dispatch}
use Rattle.market_model.specs.LimitRows.{carried}
use Rattle.market_model.specs.NamedSums.{IsRefusal, IsRefusedIn}
use Rattle.market_model.specs.Reserves.{reserve_terms}
use Rattle.market_model.specs.SumTables.{IsFlowRefusal}
use Rattle.limit_rows.specs.Refusals.{IsMostFlowRefusal}
use Rattle.price_system.specs.PriceSystem.{Caps}
use Rattle.price_dict.specs.Reached.{reached_rows}

-- an operation refused for the most that a MW of a unit may be worth
pub data IsWorthRefusal (c : Caps) (bound : ℕ) (p : Passed Fraction) : Type 0 where
  of_factor : IsRefusal Plus (whole (pos 1)) c.factor bound p → IsWorthRefusal c bound p
  of_prices : IsRefusal Times c.most (whole (pos 1) +ℚ c.factor) bound p → IsWorthRefusal c bound p
  of_energy : IsRefusal Plus c.range (c.most *ℚ (whole (pos 1) +ℚ c.factor)) bound p → IsWorthRefusal c bound p

-- for bounds: in the flow of a row that is reached or the most that it may be, in the sum of the reserve that is accepted, or for that most
pub data IsBoundsRefusal (m : Parts) (x : Dispatch) (c : Caps) (bound : ℕ) (p : Passed Fraction) : Type 0 where
  of_flow : (r : Row) → Contains (reached_rows m x) r → IsFlowRefusal m (carried m x) r bound p → IsBoundsRefusal m x c bound p
  of_most_flow : (r : Row) → Contains (reached_rows m x) r → IsMostFlowRefusal m r bound p → IsBoundsRefusal m x c bound p
  of_reserve : IsRefusedIn (reserve_terms m x) bound p → IsBoundsRefusal m x c bound p
  of_worth : IsWorthRefusal c bound p → IsBoundsRefusal m x c bound p
