-- Which operations are refused where the bound of duals is made.
use Rattle.std.specs.Prelude.{ℕ, Contains}
use Rattle.fraction_theory.specs.Fraction.{Fraction, neg_ℚ, ◌+ℚ◌, ◌-ℚ◌, ◌*ℚ◌}
use Rattle.exact_fraction.specs.declared.Op.TheVariants.{Minus}
use Rattle.exact_fraction.specs.declared.Passed.{Passed}
use Rattle.market_model.specs.declared.answered.Duals.{Duals}
use Rattle.market_model.specs.declared.limits.Row.{Row}
use Rattle.market_model.specs.declared.participants.Parts.{Parts}
use Rattle.market_model.specs.Dispatch.{empty}
use Rattle.market_model.specs.LimitRows.{carried, flow, most_flow}
use Rattle.market_model.specs.NamedSums.{IsRefusal, IsMarginRefusal}
use Rattle.market_model.specs.Optimality.{named_rows}
use Rattle.market_model.specs.SumTables.{IsFlowRefusal, IsRefusedAmong, BoundSum, FlowSum, WorthSum, IsRefusedInPrices}
use Rattle.limit_rows.specs.Refusals.{IsMostFlowRefusal}

-- an operation refused for the most that the flow of a row may be, or for what the flow leaves of that on either side, where nothing is accepted
pub data IsMostRefusal (m : Parts) (r : Row) (bound : ℕ) (p : Passed Fraction) : Type 0 where
  of_most : IsMostFlowRefusal m r bound p → IsMostRefusal m r bound p
  of_upper : IsRefusal Minus (most_flow m r) (flow m (empty m) r) bound p → IsMostRefusal m r bound p
  of_lower : IsRefusal Minus (most_flow m r) (neg_ℚ (flow m (empty m) r)) bound p → IsMostRefusal m r bound p

-- an operation refused in a sum of what flows where nothing is accepted, in the prices of these duals, for what the flow of a row that they
-- name leaves of the most that it may be then, in a worth, or in their bound
pub data IsFarkasRefusal (m : Parts) (d : Duals Fraction) (bound : ℕ) (p : Passed Fraction) : Type 0 where
  in_flow : IsRefusedAmong (FlowSum m (empty m)) bound p → IsFarkasRefusal m d bound p
  in_prices : IsRefusedInPrices m d bound p → IsFarkasRefusal m d bound p
  in_most : (r : Row) → Contains (named_rows m d) r → IsMostRefusal m r bound p → IsFarkasRefusal m d bound p
  in_worth : IsRefusedAmong (WorthSum m d) bound p → IsFarkasRefusal m d bound p
  in_bound : IsRefusedAmong (BoundSum m d) bound p → IsFarkasRefusal m d bound p

-- ---- the same step by step
-- of a row: in its flow, for the most that this may be, or on either side at these prices
pub data IsRowStepRefusal (m : Parts) (r : Row) (up down sum : Fraction) (bound : ℕ) (p : Passed Fraction) : Type 0 where
  in_row_flow : IsFlowRefusal m (carried m (empty m)) r bound p → IsRowStepRefusal m r up down sum bound p
  in_row_most : IsMostFlowRefusal m r bound p → IsRowStepRefusal m r up down sum bound p
  in_upper : IsMarginRefusal sum up (most_flow m r) (flow m (empty m) r) bound p → IsRowStepRefusal m r up down sum bound p
  in_lower : IsMarginRefusal (sum +ℚ up *ℚ (most_flow m r -ℚ flow m (empty m) r)) down (most_flow m r) (neg_ℚ (flow m (empty m) r)) bound p → IsRowStepRefusal m r up down sum bound p
