-- What is true of tables of factors that are made of a network: their texts are read over it as the same tables and are not long, and rounding explains what
-- they miss.
use Rattle.std.specs.Prelude.{◌≡◌, ℕ, ◌+◌, ◌*◌, ◌≤◌, ℤ, List, length, None, Ok}
use Rattle.market_data.specs.declared.scales.FactorPlaces.{FactorPlaces}
use Rattle.net_case.specs.Networks.{LiveNetwork}
use Rattle.outage_list.specs.Listing.{AreOutages}
use Rattle.factor_tables.specs.declared.by_pair.Column.TheVariants as column
use Rattle.factor_tables.specs.Factors.{FactorRecords}
use Rattle.factor_tables.specs.Tables.{loss_of, shift_of}
use Rattle.factor_residuals.specs.Residuals.{IsBusResidual, IsLoopResidual, IsOutageBusResidual, IsOutageLoopResidual}
use Rattle.factor_residuals.specs.declared.spots.Residual.{Residual}
use Rattle.dc_network.specs.Laws.{IsSound}
use Rattle.factor_maker.specs.Made.{IsMadeLoss, IsMadeShift}
use Rattle.factor_maker.specs.Stops.{loss_count, shift_count}
use Rattle.factor_text.specs.Laws.{IsTableOver, most_table_line}
use Rattle.factor_text.specs.Texts.{factor_table_text}

-- ---- read back
-- A shift table that is made of a network obeys its rules, and its text is read over it as the table.
abbrev pub ShiftTablesAreReadBack : Type 0
ShiftTablesAreReadBack = (network : LiveNetwork) (xs : List ℤ) (places : FactorPlaces) (shift : FactorRecords) → IsSound network xs None → IsMadeShift network xs places shift
    → IsTableOver column.Bus network shift × (shift_of network (factor_table_text column.Bus shift.entries) places ≡ Ok shift)

-- and so does an outage table
abbrev pub LossTablesAreReadBack : Type 0
LossTablesAreReadBack = (network : LiveNetwork) (xs : List ℤ) (outages : List ℕ) (places : FactorPlaces) (loss : FactorRecords) → IsSound network xs None → AreOutages network outages
    → IsMadeLoss network xs outages places loss → IsTableOver column.Outage network loss × (loss_of network (factor_table_text column.Outage loss.entries) places ≡ Ok loss)

-- ---- how long a text is
-- The text of a shift table that is made has at most most_table_line bytes for the header and for each live branch and live bus.
abbrev pub ShiftTablesAreShort : Type 0
ShiftTablesAreShort = (network : LiveNetwork) (xs : List ℤ) (places : FactorPlaces) (shift : FactorRecords) → IsSound network xs None → IsMadeShift network xs places shift
    → length (factor_table_text column.Bus shift.entries) ≤ most_table_line * (1 + shift_count network)

-- That of an outage table has at most as many for the header and for each live branch and listed outage.
abbrev pub LossTablesAreShort : Type 0
LossTablesAreShort = (network : LiveNetwork) (xs : List ℤ) (outages : List ℕ) (places : FactorPlaces) (loss : FactorRecords) → IsSound network xs None → AreOutages network outages
    → IsMadeLoss network xs outages places loss → length (factor_table_text column.Outage loss.entries) ≤ most_table_line * (1 + loss_count network outages)

-- ---- within rounding
-- no residual is beyond its bound
abbrev pub IsExplained : Residual → Type 0
IsExplained residual = residual.over ≡ None

-- that of a shift table that is made, at the buses and round the loops
abbrev pub ShiftTablesAreExplained : Type 0
ShiftTablesAreExplained = (network : LiveNetwork) (xs : List ℤ) (places : FactorPlaces) (shift : FactorRecords) → IsSound network xs None → IsMadeShift network xs places shift
    → ((r : Residual) → IsBusResidual network shift r → IsExplained r) × ((r : Residual) → IsLoopResidual network xs shift r → IsExplained r)

-- and that of an outage table
abbrev pub LossTablesAreExplained : Type 0
LossTablesAreExplained = (network : LiveNetwork) (xs : List ℤ) (outages : List ℕ) (places : FactorPlaces) (loss : FactorRecords) → IsSound network xs None → AreOutages network outages
    → IsMadeLoss network xs outages places loss
    → ((r : Residual) → IsOutageBusResidual network loss outages r → IsExplained r) × ((r : Residual) → IsOutageLoopResidual network xs loss outages r → IsExplained r)
