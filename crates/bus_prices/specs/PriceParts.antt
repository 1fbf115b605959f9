-- Bus prices and own prices of units in the making.
-- Schweppe and others, Spot Pricing of Electricity: the price at a bus is that of energy, and what congestion adds to it.
use Rattle.std.specs.Prelude.{◌≡◌, ℕ, ◌<◌, List, length, slice_index_or, if◌then◌else◌}
use Rattle.fraction_theory.specs.Fraction.{Fraction, ◌*ℚ◌}
use Rattle.market_model.specs.declared.answered.Price.{Price}
use Rattle.market_model.specs.declared.limits.Row.{Row}
use Rattle.market_model.specs.declared.participants.Parts.{Parts}
use Rattle.market_model.specs.Dispatch.{zero}
use Rattle.market_model.specs.LimitRows.{loses_unit, row_pickup}

-- each has the price of energy, and what congestion adds at its bus; nothing is said of the whole price
pub record HaveParts {N : Type 0} (value : N → Fraction) (energy : Fraction) (congestion : ℕ → Fraction) (prices : List (Price N)) : Type 0 where
  pub energy_at : (bus : ℕ) (p : Price N) → bus < length prices → value (slice_index_or prices bus p).energy ≡ energy
  pub congestion_at : (bus : ℕ) (p : Price N) → bus < length prices → value (slice_index_or prices bus p).congestion ≡ congestion bus

-- what a price of a row adds to the own price of a unit: after the loss of that unit the price by the row's pickup factor
abbrev pub added_to_own : Parts → Row → Fraction → ℕ → Fraction
added_to_own m r price u = if loses_unit m u r.cause then price *ℚ row_pickup m r.line r.cause else zero
