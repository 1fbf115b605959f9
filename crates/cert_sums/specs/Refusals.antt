-- The operations that may be refused in each sum.
use Rattle.std.specs.Prelude.{◌⊎◌, ℕ, List, Contains}
use Rattle.fraction_theory.specs.Fraction.{Fraction, neg_ℚ, ◌+ℚ◌, ◌-ℚ◌, ◌*ℚ◌}
use Rattle.fraction_theory.specs.Sums.{Term}
use Rattle.exact_fraction.specs.declared.Op.TheVariants.{Plus, Minus}
use Rattle.exact_fraction.specs.declared.Passed.{Passed}
use Rattle.market_model.specs.declared.answered.Duals.{Duals}
use Rattle.market_model.specs.declared.participants.Parts.{Parts}
use Rattle.market_model.specs.Dispatch.{Dispatch}
use Rattle.market_model.specs.declared.limits.Row.{Row}
use Rattle.market_model.specs.LimitRows.{carried, flow, limit, most_flow}
use Rattle.market_model.specs.NamedSums.{IsRefusal, IsShareRefusal, IsMarginRefusal}
use Rattle.market_model.specs.Optimality.{up_of, down_of, named_rows}
use Rattle.market_model.specs.SumTables.{IsFactorRefusal, IsFlowRefusal, IsRefusedAmong, PriceSum, WorthSum, CarriedSum}
use Rattle.limit_rows.specs.Refusals.{IsMostFlowRefusal}
use Rattle.cert_sums.specs.Named.{PricedRow}

-- the two prices of a row that duals name
abbrev pub IsPricesRefusal : Parts → Duals Fraction → ℕ → Passed Fraction → Type 0
IsPricesRefusal m d bound p = (r : Row) × Contains (named_rows m d) r × IsRefusal Minus (up_of m d r) (down_of m d r) bound p

-- in a price: in one of these sums, or in two prices or in a factor of which it is made
abbrev pub IsPriceRefusal : Parts → Duals Fraction → (List Term → Type 0) → ℕ → Passed Fraction → Type 0
IsPriceRefusal m d IsSum bound p = IsRefusedAmong IsSum bound p ⊎ IsPricesRefusal m d bound p ⊎ IsFactorRefusal m (named_rows m d) bound p

-- in the price of some unit: in the price at a bus, or in what the rows after the unit's loss take from that
abbrev pub IsUnitPriceRefusal : Parts → Duals Fraction → ℕ → Passed Fraction → Type 0
IsUnitPriceRefusal m d bound p = IsPriceRefusal m d (PriceSum m d) bound p

-- in what a MW of a unit's energy is worth: in the unit's price, or where the price of its room is taken from that
abbrev pub IsWorthRefusal : Parts → Duals Fraction → ℕ → Passed Fraction → Type 0
IsWorthRefusal m d bound p = IsUnitPriceRefusal m d bound p ⊎ IsRefusedAmong (WorthSum m d) bound p

-- in what the network carries at a dispatch: the flow of a line, or the output of a lost unit
abbrev pub IsCarriedRefusal : Parts → Dispatch → ℕ → Passed Fraction → Type 0
IsCarriedRefusal m x bound p = IsRefusedAmong (CarriedSum m x) bound p

-- ---- the same step by step
-- the two prices of a row, or what they take by a factor
abbrev pub IsNetShadowPriceRefusal : Fraction → Fraction → Fraction → Fraction → ℕ → Passed Fraction → Type 0
IsNetShadowPriceRefusal sum up down k bound p = IsRefusal Minus up down bound p ⊎ IsShareRefusal sum (neg_ℚ (up -ℚ down)) k bound p

-- what a flow leaves of the most that it may be on the lower side, or what a price makes of that
abbrev pub IsBelowRefusal : Fraction → Fraction → Fraction → Fraction → ℕ → Passed Fraction → Type 0
IsBelowRefusal sum price most flow bound p = IsRefusal Plus most flow bound p ⊎ IsShareRefusal sum price (most +ℚ flow) bound p

-- the flow of a row or its pickup factor, the most that the flow may be, or what its prices make of what the flow leaves of that, on either side
pub data IsRowShareRefusal (m : Parts) (x : Dispatch) (e : PricedRow) (sum : Fraction) (bound : ℕ) (p : Passed Fraction) : Type 0 where
  in_most : IsMostFlowRefusal m e.row bound p → IsRowShareRefusal m x e sum bound p
  in_flow : IsFlowRefusal m (carried m x) e.row bound p → IsRowShareRefusal m x e sum bound p
  in_above : IsMarginRefusal sum e.up (most_flow m e.row) (flow m x e.row) bound p → IsRowShareRefusal m x e sum bound p
  in_below : IsBelowRefusal (sum +ℚ e.up *ℚ (most_flow m e.row -ℚ flow m x e.row)) e.down (most_flow m e.row) (flow m x e.row) bound p → IsRowShareRefusal m x e sum bound p
