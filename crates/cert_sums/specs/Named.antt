-- The rows and the rooms that duals name, with the prices that they give them.
use Rattle.std.specs.Prelude.{◌≡◌, ◌==◌, ℕ, List, [], ◌∷◌, map, Option, Some, None, if◌then◌else◌}
use Rattle.fraction_theory.specs.Fraction.{Fraction}
use Rattle.market_model.specs.declared.answered.Duals.{Duals}
use Rattle.market_model.specs.declared.participants.Parts.{Parts}
use Rattle.market_model.specs.declared.limits.Row.{Row}
use Rattle.market_model.specs.Optimality.{up_of, down_of, named_rooms, named_rows, room_price}
use Rattle.cert_sums.specs.declared.pricing.NamedRow.{NamedRow}
use Rattle.cert_sums.specs.declared.worths.NamedRoom.{NamedRoom}

-- a row with the prices of its two sides
pub record PricedRow : Type 0 where
  pub row : Row
  pub up : Fraction
  pub down : Fraction

-- a row with the prices that duals give it
abbrev pub priced_by : Parts → Duals Fraction → Row → PricedRow
priced_by m d r = record { row = r; up = up_of m d r; down = down_of m d r }

-- the same read off a named row
abbrev pub priced_at : {N : Type 0} → (N → Fraction) → NamedRow N → PricedRow
priced_at value e = record { row = e.row; up = value e.up; down = value e.down }

-- these are the rows of the market that duals name, in the market's order, each with the two prices that they give it
abbrev pub AreNamed : {N : Type 0} → (N → Fraction) → Parts → Duals Fraction → List (NamedRow N) → Type 0
AreNamed value m d named = map (priced_at value) named ≡ map (priced_by m d) (named_rows m d)

-- a unit with the price of its room
pub record PricedRoom : Type 0 where
  pub unit : ℕ
  pub price : Fraction

-- a unit with the price that duals give its room
abbrev pub room_priced_by : Parts → Duals Fraction → ℕ → PricedRoom
room_priced_by m d u = record { unit = u; price = room_price m d u }

-- the same read off a named room
abbrev pub room_priced_at : {N : Type 0} → (N → Fraction) → NamedRoom N → PricedRoom
room_priced_at value e = record { unit = e.unit; price = value e.price }

-- these are the units that offer reserve and whose rooms duals name, in the market's order, each with the price that they give its room
abbrev pub AreNamedRooms : {N : Type 0} → (N → Fraction) → Parts → Duals Fraction → List (NamedRoom N) → Type 0
AreNamedRooms value m d rooms = map (room_priced_at value) rooms ≡ map (room_priced_by m d) (named_rooms m d)

-- the price that is named for the room of a unit
abbrev pub room_in : {N : Type 0} → List (NamedRoom N) → ℕ → Option N
room_in [] u = None
room_in (e ∷ es) u = if e.unit == u then Some e.price else room_in es u
