-- Gen rows: which units are in service, at which buses, and their bounds.
use Rattle.std.specs.Prelude.{◌≡◌, ◌≢◌, ◌⊎◌, ℕ, pos, ◌≤ℤ◌, List, Contains, Option, Some, None}
use Rattle.std.specs.List.{AllZip, filter_map, enumerate_from}
use Rattle.fraction_theory.specs.declared.Sign.{Sign}
use Rattle.fraction_theory.specs.declared.Sign.TheVariants as sign
use Rattle.record_reading.specs.Records.{Record}
use Rattle.net_case.specs.Columns.{GEN_BUS, GEN_STATUS, PMAX, PMIN}
use Rattle.net_case.specs.declared.live_parts.NetUnit.{NetUnit}
use Rattle.network_meaning.specs.Cells.{cell, IsWhole, IsMegawatts, IsOfSign}

-- Each row of a matrix, numbered from 1, gives an item or none. These are the items, in the order of the rows.
pub record AreGiven {A : Type 0} (gives : ℕ → Record → Option A → Type 0) (matrix : List Record) (items : List A) : Type 0 where
  pub given : List (Option A)
  pub rows : AllZip (λ numbered item. gives numbered.0 numbered.1 item) (enumerate_from 1 matrix) given
  pub items_are : items ≡ filter_map (λ item. item) given

-- The unit of a gen row has its number, the place of its bus among the buses in service, PMIN and PMAX, which is no less.
pub record IsUnitInService (number : ℕ) (row : Record) (place : Option ℕ) (status : Sign) (unit : NetUnit) : Type 0 where
  pub status_above : status ≡ sign.Above
  pub bus_in_service : place ≡ Some unit.bus
  pub row_is : unit.row ≡ number
  pub pmin : IsMegawatts (cell row PMIN) unit.low
  pub pmax : IsMegawatts (cell row PMAX) unit.high
  pub order : unit.low ≤ℤ unit.high

-- A unit is in service where its GEN_STATUS is above 0 and its bus is in service. PMAX and PMIN of one out of service are not read.
abbrev pub GivesUnit : ℕ → Record → Option ℕ → Sign → Option NetUnit → Type 0
GivesUnit number row place status None = (place ≡ None) ⊎ (status ≢ sign.Above)
GivesUnit number row place status (Some unit) = IsUnitInService number row place status unit

-- GEN_BUS is the number of a bus row, and GEN_STATUS is read by its sign. `buses` are the numbers of the bus rows with the places of their
-- buses.
pub record IsGenRow (buses : List (ℕ × Option ℕ)) (number : ℕ) (row : Record) (gives : Option NetUnit) : Type 0 where
  pub bus : ℕ
  pub place : Option ℕ
  pub status : Sign
  pub gen_bus : IsWhole (cell row GEN_BUS) (pos bus)
  pub has_row : Contains buses (bus, place)
  pub gen_status : IsOfSign (cell row GEN_STATUS) status
  pub unit : GivesUnit number row place status gives
