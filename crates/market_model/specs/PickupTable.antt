-- Pickup factors as whole numbers, which a market keeps beside its parts.
-- Source: own.
use Rattle.std.specs.Prelude.{◌≡◌, ℕ, ◌+◌, ◌*◌, ◌<◌, ℤ, pos, List, length, slice_index_or}
use Rattle.fraction_theory.specs.Fraction.{over}
use Rattle.market_data.specs.Scales.{pickup_one}
use Rattle.market_model.specs.declared.participants.Parts.{Parts}
use Rattle.market_model.specs.LimitRows.{pickup_factor}

-- the pickup factors of all lines at the outages of units, as so many of 10^-15, with a row of all lines for each outage
pub record IsPickupTable (m : Parts) (table : List ℤ) : Type 0 where
  pub count : length table ≡ length m.unit_outages * length m.lines
  pub each : (outage line : ℕ) → outage < length m.unit_outages → line < length m.lines → pickup_factor m line outage ≡ over (slice_index_or table (outage * length m.lines + line) (pos 0)) pickup_one
