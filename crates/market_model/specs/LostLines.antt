-- The lines that outages lose, by place, and what a market keeps of them beside its parts.
-- Source: own.
use Rattle.std.specs.Prelude.{◌≡◌, ℕ, ◌<◌, ℤ, List, length, slice_index_or, Option, Some, None}
use Rattle.market_model.specs.declared.participants.Factor.{Factor}
use Rattle.market_model.specs.declared.participants.Parts.{Parts}
use Rattle.market_model.specs.Factors.{factor_in, IsTable}
use Rattle.market_model.specs.LimitRows.{lost_lines}

-- for each of so many lines the place of its outage, where it is one of those that are lost
pub record IsOutageIndex (lines : ℕ) (lost : List ℕ) (index : List (Option ℕ)) : Type 0 where
  pub count : length index ≡ lines
  pub found : (line outage : ℕ) → slice_index_or index line None ≡ Some outage → (outage < length lost) × (slice_index_or lost outage 0 ≡ line)
  pub all : (outage : ℕ) → outage < length lost → slice_index_or index (slice_index_or lost outage 0) None ≡ Some outage

-- the factor of a line for the line that an outage loses, by the place of the outage
abbrev pub factor_after : List Factor → List ℕ → ℕ → ℕ → ℤ
factor_after factors lost outage line = factor_in factors line (slice_index_or lost outage 0)

-- the lost lines, their index, and a table of the factors for them, with a row of all lines for each outage
pub record AreLostLines (m : Parts) (lost : List ℕ) (outages : List (Option ℕ)) (table : List ℤ) : Type 0 where
  pub lines : lost ≡ lost_lines m
  pub index : IsOutageIndex (length m.lines) lost outages
  pub factors : IsTable (length lost) (length m.lines) (factor_after m.loss lost) table
