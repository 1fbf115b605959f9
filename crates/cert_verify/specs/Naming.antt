-- Duals by the names of their rows.
use Rattle.std.specs.Prelude.{◌≡◌, ℕ, true, false, List, map, filter, Option, MatchOption}
use Rattle.fraction_theory.specs.Fraction.{Fraction}
use Rattle.market_model.specs.declared.answered.Dual.{Dual}
use Rattle.market_model.specs.declared.answered.Duals.{Duals}
use Rattle.market_model.specs.declared.participants.Parts.{Parts}
use Rattle.market_model.specs.declared.limits.Row.{Row}
use Rattle.market_model.specs.LimitRows.{row_id}
use Rattle.market_model.specs.declared.answered.RoomDual.{RoomDual}
use Rattle.market_model.specs.Optimality.{names_room, names_row, room_price_in}
use Rattle.cert_format.specs.Certificates.{name_of}
use Rattle.cert_sums.specs.declared.pricing.NamedRow.{NamedRow}
use Rattle.cert_sums.specs.Named.{PricedRow, priced_at, priced_by}

-- a dual with the name of its row
abbrev pub entry_of : {N : Type 0} → Dual N → (ℕ × ℕ × ℕ) × Dual N
entry_of e = (name_of e.row, e)

-- a row with its prices, where duals name it
abbrev pub IsNamedAt : {N : Type 0} → (N → Fraction) → Parts → Duals Fraction → Row → Option (NamedRow N) → Type 0
IsNamedAt value m d r found = MatchOption found (names_row d.limits (row_id m r) ≡ false) (λ e. (names_row d.limits (row_id m r) ≡ true) × (priced_at value e ≡ priced_by m d r))

-- the prices of those rows that duals name
abbrev pub prices_of : Parts → Duals Fraction → List Row → List PricedRow
prices_of m d rs = map (priced_by m d) (filter (λ r. names_row d.limits (row_id m r)) rs)

-- the price of the room of the unit of that gen row, where duals name it
abbrev pub IsPriceOf : {N : Type 0} → (N → Fraction) → List (RoomDual Fraction) → ℕ → Option N → Type 0
IsPriceOf value ds row found = MatchOption found (names_room ds row ≡ false) (λ price. (names_room ds row ≡ true) × (value price ≡ room_price_in ds row))
