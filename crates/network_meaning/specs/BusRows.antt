-- Bus rows: which buses are in service, their numbers, their places and their demands, and which is the reference.
use Rattle.std.specs.Prelude.{◌≡◌, ◌≢◌, ℕ, ◌≤◌, pos, List, ◌∷◌, ◌++◌, length, map, AllPairs, Option, Some, None, slice_get}
use Rattle.std.specs.List.{AllByRecursion, filter_map}
use Rattle.market_data.specs.declared.participants.Bus.{Bus}
use Rattle.record_reading.specs.Records.{Record}
use Rattle.net_case.specs.Columns.{BUS_I, BUS_TYPE, PD, GS}
use Rattle.net_case.specs.Networks.{most_bus_number}
use Rattle.network_meaning.specs.Cells.{cell, IsWhole, IsMegawatts}

-- What a bus row says:
pub record BusRow : Type 0 where
  -- the number of the bus,
  pub number : ℕ
  -- its type, 1 PQ, 2 PV, 3 reference, 4 isolated,
  pub kind : ℕ
  -- and the bus, where it is in service.
  pub bus : Option Bus

-- A bus is in service where its type is not 4 (isolated). It has its number, PD and GS.
pub record IsBusInService (row : Record) (number kind : ℕ) (bus : Bus) : Type 0 where
  pub not_isolated : kind ≢ 4
  pub number_is : bus.number ≡ number
  pub pd : IsMegawatts (cell row PD) bus.pd
  pub gs : IsMegawatts (cell row GS) bus.gs

-- PD and GS of an isolated bus are not read.
abbrev pub GivesBus : Record → ℕ → ℕ → Option Bus → Type 0
GivesBus row number kind None = kind ≡ 4
GivesBus row number kind (Some bus) = IsBusInService row number kind bus

-- the row says this
pub record SaysBus (row : Record) (says : BusRow) : Type 0 where
  pub number : IsWhole (cell row BUS_I) (pos says.number)
  pub number_range : (1 ≤ says.number) × (says.number ≤ most_bus_number)
  pub kind : IsWhole (cell row BUS_TYPE) (pos says.kind)
  pub kind_range : (1 ≤ says.kind) × (says.kind ≤ 4)
  pub bus : GivesBus row says.number says.kind says.bus

abbrev pub numbers : List BusRow → List ℕ
numbers rows = map (λ row. row.number) rows

-- No two bus rows have the same number.
abbrev pub AreApart : List BusRow → Type 0
AreApart rows = AllPairs (λ one other. one ≢ other) (numbers rows)

-- the buses in service, in the order of the rows
abbrev pub in_service : List BusRow → List Bus
in_service rows = filter_map (λ row. row.bus) rows

-- The reference is the first bus row of type 3. It has this place among the buses in service, the first being 0, where so many of them
-- stand in rows before it.
pub record IsReference (rows : List BusRow) (place : ℕ) : Type 0 where
  pub before : List BusRow
  pub reference : BusRow
  pub behind : List BusRow
  pub rows_are : rows ≡ before ++ (reference ∷ behind)
  pub is_reference : reference.kind ≡ 3
  pub is_first : AllByRecursion (λ row. row.kind ≢ 3) before
  pub place_is : place ≡ length (in_service before)

-- the place of a bus among the buses in service, and none of one that is not
abbrev pub IsPlace : List Bus → Option Bus → Option ℕ → Type 0
IsPlace buses None None = Unit {0}
IsPlace buses None (Some place) = ⊥
IsPlace buses (Some bus) None = ⊥
IsPlace buses (Some bus) (Some place) = slice_get buses place ≡ Some bus

-- the number of a bus row beside the place of its bus
abbrev pub IsPlaced : List Bus → BusRow → ℕ × Option ℕ → Type 0
IsPlaced buses row entry = (entry.0 ≡ row.number) × IsPlace buses row.bus entry.1
