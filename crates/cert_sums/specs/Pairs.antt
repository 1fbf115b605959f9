-- The operations that may be refused where the bound of duals is added up.
-- They are taken at these duals, and no step of a clearing stands among them.
use Rattle.std.specs.Prelude.{ℕ, Contains}
use Rattle.fraction_theory.specs.Fraction.{Fraction}
use Rattle.exact_fraction.specs.declared.Op.TheVariants.{Plus, Minus}
use Rattle.exact_fraction.specs.declared.Passed.{Passed}
use Rattle.market_model.specs.declared.answered.Duals.{Duals}
use Rattle.market_model.specs.declared.limits.Row.{Row}
use Rattle.market_model.specs.declared.participants.Parts.{Parts}
use Rattle.market_model.specs.Dispatch.{empty}
use Rattle.market_model.specs.LimitRows.{flow, most_flow, limit}
use Rattle.market_model.specs.NamedSums.{IsRefusal}
use Rattle.market_model.specs.Optimality.{named_rows}
use Rattle.market_model.specs.SumTables.{IsRefusedAmong, BoundSum, FlowSum}
use Rattle.limit_rows.specs.Refusals.{IsMostFlowRefusal}
use Rattle.cert_sums.specs.Refusals.{IsWorthRefusal}

-- in a flow or a lost output where nothing is accepted, in the price of a unit or in what a MW of one is worth, in the bound, of a row's limit and most excess, or of the most that its flow may be and what it is where nothing is accepted, on either side
pub data IsFarkasPair (m : Parts) (d : Duals Fraction) (bound : ℕ) (p : Passed Fraction) : Type 0 where
  in_flow : IsRefusedAmong (FlowSum m (empty m)) bound p → IsFarkasPair m d bound p
  in_worth : IsWorthRefusal m d bound p → IsFarkasPair m d bound p
  in_bound : IsRefusedAmong (BoundSum m d) bound p → IsFarkasPair m d bound p
  of_most : (r : Row) → Contains (named_rows m d) r → IsMostFlowRefusal m r bound p → IsFarkasPair m d bound p
  of_most_less : (r : Row) → Contains (named_rows m d) r → IsRefusal Minus (most_flow m r) (flow m (empty m) r) bound p → IsFarkasPair m d bound p
  of_most_more : (r : Row) → Contains (named_rows m d) r → IsRefusal Plus (most_flow m r) (flow m (empty m) r) bound p → IsFarkasPair m d bound p
