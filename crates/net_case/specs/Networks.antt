-- What a network is, and what is kept of it.
use Rattle.std.specs.Prelude.{◌≡◌, ◌≢◌, ℕ, ◌≤◌, ◌<◌, ◌==◌, ℤ, pos, negsuc, ◌≤ℤ◌, Bool, List, length, map, All, AllPairs, Contains, position, slice_get, slice_index_or, Option, Some, None, is_some, IfSome}
use Rattle.market_data.specs.Participants.{IsDatum, IsBus, IsUnit}
use Rattle.market_data.specs.Scales.{most_buses, most_lines, most_units}
use Rattle.market_data.specs.declared.participants.Bus.{Bus}
use Rattle.market_data.specs.declared.participants.UnitList.{UnitList}
use Rattle.net_case.specs.declared.live_parts.NetUnit.{NetUnit}
use Rattle.net_case.specs.declared.live_parts.NetBranch.{NetBranch}

-- ---- what a network is
-- the live buses, units and branches of a case in row order, the place of the reference among the buses, how many rows the case has,
-- and the number of every bus row with its place among the live buses, where it is live
pub record LiveNetwork : Type 0 where
  pub buses : List Bus
  pub units : List NetUnit
  pub branches : List NetBranch
  pub reference : ℕ
  pub gen_rows : ℕ
  pub branch_rows : ℕ
  pub bus_rows : List (ℕ × Option ℕ)

-- the place of the first of these numbers that is n
abbrev pub place_of : List ℕ → ℤ → Option ℕ
place_of numbers (pos n) = position (λ m. m == n) numbers
place_of numbers (negsuc n) = None

-- whether a bus row has this number
abbrev pub has_bus : LiveNetwork → ℤ → Bool
has_bus network n = is_some (place_of (map (λ row. row.0) network.bus_rows) n)

-- the place of the live bus of this number
abbrev pub bus_place : LiveNetwork → ℤ → Option ℕ
bus_place network n = place_of (map (λ bus. bus.number) network.buses) n

-- the place of the live branch of this row
abbrev pub branch_place : LiveNetwork → ℤ → Option ℕ
branch_place network n = place_of (map (λ branch. branch.row) network.branches) n

-- ---- what is kept of it
-- the greatest BUS_I
abbrev pub most_bus_number : ℕ
most_bus_number = 2147483647

abbrev pub IsBusNumber : ℕ → Type 0
IsBusNumber number = (1 ≤ number) × (number ≤ most_bus_number)

-- a live unit at one of so many buses
pub record IsNetUnit (buses : ℕ) (unit : NetUnit) : Type 0 where
  pub row : 1 ≤ unit.row
  pub bus : unit.bus < buses
  pub low : IsDatum unit.low
  pub high : IsDatum unit.high
  pub order : unit.low ≤ℤ unit.high

-- a limit is at least 0
pub record IsLimit (limit : ℤ) : Type 0 where
  pub least : pos 0 ≤ℤ limit
  pub datum : IsDatum limit

-- a live branch between two of so many buses
pub record IsNetBranch (buses : ℕ) (branch : NetBranch) : Type 0 where
  pub from : branch.from < buses
  pub to : branch.to < buses
  pub ends : branch.from ≢ branch.to
  pub base : IfSome branch.base IsLimit
  pub post : IfSome branch.post IsLimit

-- rows that rise, from 1 to the last at most
pub record AreRows (last : ℕ) (rows : List ℕ) : Type 0 where
  pub range : All (λ row. (1 ≤ row) × (row ≤ last)) rows
  pub rise : AllPairs (λ a b. a < b) rows

-- the numbers of bus rows are distinct, and those of the live buses among them stand with their places
pub record AreBusRows (buses : List Bus) (rows : List (ℕ × Option ℕ)) : Type 0 where
  pub numbers : All (λ row. IsBusNumber row.0) rows
  pub distinct : AllPairs (λ a b. a ≢ b) (map (λ row. row.0) rows)
  pub live : All (λ row. IfSome row.1 (λ place. slice_get (map (λ bus. bus.number) buses) place ≡ Some row.0)) rows
  pub all : (place : ℕ) (d : Bus) → place < length buses → Contains rows ((slice_index_or buses place d).number, Some place)

pub record IsNetwork (network : LiveNetwork) : Type 0 where
  pub bus_count : length network.buses ≤ most_buses
  pub unit_count : length network.units ≤ most_units
  pub branch_count : length network.branches ≤ most_lines
  pub gen_count : network.gen_rows ≤ most_units
  pub branch_row_count : network.branch_rows ≤ most_lines
  pub buses : All IsBus network.buses
  pub numbers : All IsBusNumber (map (λ bus. bus.number) network.buses)
  pub distinct : AllPairs (λ a b. a ≢ b) (map (λ bus. bus.number) network.buses)
  pub units : All (IsNetUnit (length network.buses)) network.units
  pub unit_rows : AreRows network.gen_rows (map (λ unit. unit.row) network.units)
  pub branches : All (IsNetBranch (length network.buses)) network.branches
  pub rows_of_branches : AreRows network.branch_rows (map (λ branch. branch.row) network.branches)
  pub reference : network.reference < length network.buses
  pub bus_rows : AreBusRows network.buses network.bus_rows

-- live units at so many buses
pub record AreUnits (buses : ℕ) (list : UnitList) : Type 0 where
  pub count : length list.units ≤ most_units
  pub units : All (IsUnit buses) list.units

-- bus rows by number, each with its place among so many live buses where it is live
abbrev pub ArePlaces : ℕ → List (ℕ × Option ℕ) → Type 0
ArePlaces buses places = All (λ entry. IfSome entry.1 (λ place. place < buses)) places
