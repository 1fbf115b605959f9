-- Which operations are refused where the prices and bounds of a market's system are made.
use Rattle.std.specs.Prelude.{ℕ, List, Contains}
use Rattle.fraction_theory.specs.Fraction.{Fraction, neg_ℚ}
use Rattle.exact_fraction.specs.declared.Op.TheVariants.{Minus}
use Rattle.exact_fraction.specs.declared.Passed.{Passed}
use Rattle.market_model.specs.declared.participants.Parts.{Parts}
use Rattle.market_model.specs.Dispatch.{empty}
use Rattle.market_model.specs.declared.limits.Row.{Row}
use Rattle.market_model.specs.LimitRows.{rows, limit, flow}
use Rattle.market_model.specs.NamedSums.{IsRefusal, IsRefusedIn}
use Rattle.market_model.specs.SumTables.{IsRefusedAmong, FlowSum, PickupSum}
use Rattle.market_system.specs.MarketSystem.{offered_terms}

-- an operation refused for what the flow of a row, where nothing is accepted, leaves of its limit on either side
pub data IsLeftRefusal (m : Parts) (bound : ℕ) (r : Row) (p : Passed Fraction) : Type 0 where
  of_high : IsRefusal Minus (limit m r) (flow m (empty m) r) bound p → IsLeftRefusal m bound r p
  of_low : IsRefusal Minus (neg_ℚ (limit m r)) (flow m (empty m) r) bound p → IsLeftRefusal m bound r p

-- an operation refused for prices and bounds: in a sum of what flows where nothing is accepted, in the pickup factor or a bound of one
-- of these rows, or in the sum of what is offered of reserve
pub data IsBoundsRefusal (m : Parts) (over : List Row) (bound : ℕ) (p : Passed Fraction) : Type 0 where
  of_sum : IsRefusedAmong (FlowSum m (empty m)) bound p → IsBoundsRefusal m over bound p
  of_pickup : (r : Row) → Contains (rows m) r → Contains over r → IsRefusedAmong (PickupSum m r) bound p → IsBoundsRefusal m over bound p
  of_bound : (r : Row) → Contains (rows m) r → Contains over r → IsLeftRefusal m bound r p → IsBoundsRefusal m over bound p
  of_offered : IsRefusedIn (offered_terms m) bound p → IsBoundsRefusal m over bound p
