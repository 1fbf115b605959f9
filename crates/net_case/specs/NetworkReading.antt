-- The network that a case stands for, or the first fault of its rows.
use Rattle.std.specs.Prelude.{ℕ, ◌+◌, ◌-◌, ◌==◌, ◌&&◌, ◌||◌, codes, ℤ, pos, ◌-ℤ◌, Bool, true, false, List, [], ◌∷◌, length, map, filter, position, nat_lt, Option, Some, None, is_some, Result, Ok, Err, slice_index_or, unsigned_abs, if◌then◌else◌}
use Rattle.std.specs.Int.Signed.{lt_z, le_z}
use Rattle.std.specs.List.{filter_map}
use Rattle.std.specs.Map.{lookup}
use Rattle.std.specs.Str.{bytes_eq}
use Rattle.market_data.specs.declared.participants.Bus.{Bus}
use Rattle.market_data.specs.declared.participants.Unit as unit
use Rattle.market_data.specs.declared.participants.UnitList.{UnitList}
use Rattle.record_reading.specs.Records.{Record}
use Rattle.record_reading.specs.Steps.{and_then, some_of}
use Rattle.record_reading.specs.Gathering.{read_records, gather, listed}
use Rattle.fraction_theory.specs.declared.Sign.{Sign}
use Rattle.fraction_theory.specs.declared.Sign.TheVariants as sign
use Rattle.scaled_decimal.specs.Reading.{units_of, sign_in}
use Rattle.scaled_decimal.specs.declared.DecimalFault.{DecimalFault}
use Rattle.case_text.specs.Matrices.{CaseMatrices}
use Rattle.case_text.specs.declared.Field.{Field}
use Rattle.case_text.specs.declared.Field.TheVariants as field
use Rattle.record_reading.specs.declared.Why.TheVariants as why
use Rattle.net_case.specs.declared.live_parts.NetFault.{NetFault}
use Rattle.net_case.specs.declared.live_parts.NetFault.TheVariants as fault
use Rattle.net_case.specs.declared.live_parts.NetUnit.{NetUnit}
use Rattle.net_case.specs.declared.live_parts.NetBranch.{NetBranch}
use Rattle.net_case.specs.declared.live_parts.Branches.{Branches}
use Rattle.net_case.specs.declared.live_parts.Branches.TheVariants as branches
use Rattle.net_case.specs.declared.live_parts.PostRating.{PostRating}
use Rattle.net_case.specs.declared.live_parts.PostRating.TheVariants as post
use Rattle.market_data.specs.Scales.{most_buses, most_lines, most_units, mw_places}
use Rattle.net_case.specs.Columns.{BR_STATUS, BUS_I, BUS_TYPE, F_BUS, GEN_BUS, GEN_STATUS, GS, PD, PMAX, PMIN, RATE_A, RATE_B, RATE_C, SHIFT, T_BUS}
use Rattle.net_case.specs.Networks.{LiveNetwork, most_bus_number}
use Rattle.net_case.specs.declared.bus_rows.BusRow.{BusRow}

-- what is read in a cell, or the cell's fault
abbrev pub in_cell : {A : Type 0} → Field → ℕ → ℕ → Result A DecimalFault → Result A NetFault
in_cell f row col (Ok x) = Ok x
in_cell f row col (Err e) = Err (fault.Cell f row col (why.Decimal e))

-- a row of a matrix, the first being 1
abbrev pub row_at : List Record → ℕ → Record
row_at rows row = slice_index_or rows (row - 1) []

-- a row's cell, the first column being 1
abbrev pub cell_in : Record → ℕ → List ℕ
cell_in r col = slice_index_or r (col - 1) []

-- the number in a cell, in units of so many decimals
abbrev pub number_in : Field → ℕ → Record → ℕ → ℕ → Result ℤ NetFault
number_in f row r col decimals = in_cell f row col (units_of decimals (cell_in r col))

-- the sign of the number in a row's cell
abbrev pub sign_at : Field → ℕ → Record → ℕ → Result Sign NetFault
sign_at f row r col = in_cell f row col (sign_in (cell_in r col))

-- ---- bus rows
-- a whole number from 1 to the most that a column takes
unfoldable pub counted_in : ℕ → Record → ℕ → ℕ → Result ℕ NetFault
counted_in row r col most =
    and_then (number_in field.Bus row r col 0) (λ n.
    if le_z (pos 1) n && le_z n (pos most) then Ok (unsigned_abs n) else Err (fault.Cell field.Bus row col why.Bounds))

-- the load and the shunt of a live bus
unfoldable pub demands_in : ℕ → Record → ℕ → Result Bus NetFault
demands_in row r number =
    and_then (number_in field.Bus row r PD mw_places) (λ pd.
    and_then (number_in field.Bus row r GS mw_places) (λ gs.
    Ok (record { number = number; pd = pd; gs = gs })))

abbrev pub live_row : ℕ → Bool → Result Bus NetFault → Result BusRow NetFault
live_row number is_reference (Ok bus) = Ok (record { number = number; is_reference = is_reference; live = Some bus })
live_row number is_reference (Err f) = Err f

-- the row of a bus of type 4 is not live, and that of type 3 is the reference
unfoldable pub row_of_type : ℕ → Record → ℕ → ℕ → Result BusRow NetFault
row_of_type row r number code =
    if code == 4 then Ok (record { number = number; is_reference = false; live = None })
    else live_row number (code == 3) (demands_in row r number)

abbrev pub Places : Type 0
Places = List (ℕ × Option ℕ)

-- the places of a live bus, which is the next, and of an isolated one, which has none
abbrev pub next_place : ℕ → Option Bus → Option ℕ
next_place n None = None
next_place n (Some bus) = Some n

-- bus rows by number, each with its place among the live buses, where so many stand before the first
abbrev pub places_from : ℕ → List BusRow → Places
places_from n [] = []
places_from n (b ∷ rows) = (b.number, next_place n b.live) ∷ places_from (n + length (listed b.live)) rows

-- a bus row, where the rows before it have these places
unfoldable pub bus_row_after : Places → ℕ → Record → Result BusRow NetFault
bus_row_after places row r =
    and_then (counted_in row r BUS_I most_bus_number) (λ number.
    if is_some (lookup (λ other. number == other) places) then Err (fault.BusTwice row)
    else and_then (counted_in row r BUS_TYPE 4) (row_of_type row r number))

abbrev pub bus_row : List BusRow → ℕ → Record → Result BusRow NetFault
bus_row earlier row r = bus_row_after (places_from 0 earlier) row r

-- the place of the first reference among the live buses
abbrev pub reference_of : List BusRow → Option ℕ
reference_of rows = position (λ b. b.is_reference) (filter (λ b. is_some b.live) rows)

-- the same, with one row more behind so many live buses
abbrev pub reference_after : Option ℕ → ℕ → Bool → Option ℕ
reference_after (Some place) count is_reference = Some place
reference_after None count is_reference = if is_reference then Some count else None

-- bus rows with the place of the reference
pub record ReadBuses : Type 0 where
  pub rows : List BusRow
  pub reference : ℕ

-- all bus rows, of which one is the reference
abbrev pub referenced : List BusRow → Option ℕ → Result ReadBuses NetFault
referenced rows (Some place) = Ok (record { rows = rows; reference = place })
referenced rows None = Err fault.NoReference

unfoldable pub bus_rows : List Record → Result ReadBuses NetFault
bus_rows matrix = and_then (read_records bus_row [] 1 matrix) (λ rows. referenced rows (reference_of rows))

abbrev pub live_buses : List BusRow → List Bus
live_buses rows = filter_map (λ b. b.live) rows

-- ---- gen rows
-- the bus row of a number, where there is one, by its place among the live buses, where it is live
unfoldable pub place_of_number : Places → ℤ → Option (Option ℕ)
place_of_number places n = if le_z (pos 1) n && le_z n (pos most_bus_number) then lookup (λ other. unsigned_abs n == other) places else None

-- the place of a bus that a row names, where some bus row has its number
abbrev pub named_place : Field → ℕ → Option (Option ℕ) → Result (Option ℕ) NetFault
named_place f row None = Err (fault.NoBus f row)
named_place f row (Some place) = Ok place

abbrev pub is_above : Sign → Bool
is_above sign.Below = false
is_above sign.Zero = false
is_above sign.Above = true

-- whether a status is above 0
abbrev pub service_in : Field → ℕ → Record → ℕ → Result Bool NetFault
service_in f row r col = and_then (sign_at f row r col) (λ s. Ok (is_above s))

-- a live unit with its bounds
unfoldable pub bounds_in : ℕ → Record → ℕ → Result NetUnit NetFault
bounds_in row r bus =
    and_then (number_in field.Gen row r PMAX mw_places) (λ high.
    and_then (number_in field.Gen row r PMIN mw_places) (λ low.
    if lt_z high low then Err (fault.MinAboveMax row) else Ok (record { row = row; bus = bus; low = low; high = high })))

-- the unit of a row whose bus has a place among the live buses, where its status is above 0
unfoldable pub unit_where : ℕ → Record → Option ℕ → Bool → Result (Option NetUnit) NetFault
unit_where row r None in_service = Ok None
unit_where row r (Some bus) false = Ok None
unit_where row r (Some bus) true = some_of (bounds_in row r bus)

unfoldable pub unit_row : Places → ℕ → Record → Result (Option NetUnit) NetFault
unit_row places row r =
    and_then (number_in field.Gen row r GEN_BUS 0) (λ n.
    and_then (named_place field.Gen row (place_of_number places n)) (λ place.
    and_then (service_in field.Gen row r GEN_STATUS) (unit_where row r place)))

-- ---- branch rows
-- infinity without a minus sign, and with one
abbrev pub is_infinite : List ℕ → Bool
is_infinite cell = bytes_eq cell (codes "Inf") || bytes_eq cell (codes "inf") || bytes_eq cell (codes "+Inf") || bytes_eq cell (codes "+inf")

abbrev pub is_below_all : List ℕ → Bool
is_below_all cell = bytes_eq cell (codes "-Inf") || bytes_eq cell (codes "-inf")

-- a rating is a limit where it is above 0, and none where it is 0
unfoldable pub rated_limit : ℕ → ℕ → ℤ → Result (Option ℤ) NetFault
rated_limit row col rating =
    if lt_z rating (pos 0) then Err (fault.Cell field.Branch row col why.Bounds)
    else if lt_z (pos 0) rating then Ok (Some rating)
    else Ok None

-- the limit in a row's cell; infinity is none
unfoldable pub limit_in : ℕ → Record → ℕ → Result (Option ℤ) NetFault
limit_in row r col =
    if is_infinite (cell_in r col) then Ok None
    else if is_below_all (cell_in r col) then Err (fault.Cell field.Branch row col why.Bounds)
    else and_then (number_in field.Branch row r col mw_places) (rated_limit row col)

abbrev pub is_off_zero : Sign → Bool
is_off_zero sign.Below = true
is_off_zero sign.Zero = false
is_off_zero sign.Above = true

-- whether the phase shift angle is not 0
unfoldable pub shifted_in : ℕ → Record → Result Bool NetFault
shifted_in row r = and_then (sign_at field.Branch row r SHIFT) (λ s. Ok (is_off_zero s))

-- the column of the rating that is the limit after an outage: RATE_A, RATE_B or RATE_C
abbrev pub post_column : PostRating → ℕ
post_column post.A = RATE_A
post_column post.B = RATE_B
post_column post.C = RATE_C

-- a live branch between two buses, with its limits
unfoldable pub limits_in : PostRating → ℕ → Record → ℕ → ℕ → Result NetBranch NetFault
limits_in rating row r from to =
    if from == to then Err (fault.SameEnds row)
    else and_then (limit_in row r RATE_A) (λ base.
    and_then (limit_in row r (post_column rating)) (λ after.
    and_then (shifted_in row r) (λ shifted.
    Ok (record { row = row; from = from; to = to; base = base; post = after; shifted = shifted }))))

-- the branch of a row whose buses both have places among the live buses, where its status is above 0
unfoldable pub branch_where : PostRating → ℕ → Record → Option ℕ → Option ℕ → Bool → Result (Option NetBranch) NetFault
branch_where rating row r None to in_service = Ok None
branch_where rating row r (Some from) None in_service = Ok None
branch_where rating row r (Some from) (Some to) false = Ok None
branch_where rating row r (Some from) (Some to) true = some_of (limits_in rating row r from to)

unfoldable pub branch_row : PostRating → Places → ℕ → Record → Result (Option NetBranch) NetFault
branch_row rating places row r =
    and_then (number_in field.Branch row r F_BUS 0) (λ f_bus.
    and_then (number_in field.Branch row r T_BUS 0) (λ t_bus.
    and_then (named_place field.Branch row (place_of_number places f_bus)) (λ from.
    and_then (named_place field.Branch row (place_of_number places t_bus)) (λ to.
    and_then (service_in field.Branch row r BR_STATUS) (branch_where rating row r from to)))))

-- ---- the case
-- the number of a matrix's rows, which is at most so many
unfoldable pub few_rows : ℕ → Field → List Record → Result ℕ NetFault
few_rows most f rows = if nat_lt most (length rows) then Err (fault.TooMany f (length rows)) else Ok (length rows)

-- branch rows that are skipped are not even counted
abbrev pub branch_count : Branches → List Record → Result ℕ NetFault
branch_count branches.Skip rows = Ok 0
branch_count (branches.Read rating) rows = few_rows most_lines field.Branch rows

abbrev pub branches_in : Branches → Places → List Record → Result (List NetBranch) NetFault
branches_in branches.Skip places rows = Ok []
branches_in (branches.Read rating) places rows = gather (λ _. branch_row rating places) [] 1 rows

unfoldable pub network_of : Branches → CaseMatrices → Result LiveNetwork NetFault
network_of read case =
    and_then (few_rows most_buses field.Bus case.bus) (λ _.
    and_then (few_rows most_units field.Gen case.generators) (λ gen_rows.
    and_then (branch_count read case.branch) (λ branch_rows.
    and_then (bus_rows case.bus) (λ buses.
    and_then (gather (λ _. unit_row (places_from 0 buses.rows)) [] 1 case.generators) (λ units.
    and_then (branches_in read (places_from 0 buses.rows) case.branch) (λ live.
    Ok (record {
      buses = live_buses buses.rows;
      units = units;
      branches = live;
      reference = buses.reference;
      gen_rows = gen_rows;
      branch_rows = branch_rows;
      bus_rows = places_from 0 buses.rows;
    })))))))

-- ---- units
-- the number from low to high that is nearest 0
abbrev pub nearest_0 : ℤ → ℤ → ℤ
nearest_0 low high = if lt_z (pos 0) low then low else if lt_z high (pos 0) then high else pos 0

-- a unit's fixed part, and its room above and below that
unfoldable pub unit_within : NetUnit → unit.Unit
unit_within u = record {
  row = u.row;
  bus = u.bus;
  fixed = nearest_0 u.low u.high;
  up = u.high -ℤ nearest_0 u.low u.high;
  down = nearest_0 u.low u.high -ℤ u.low;
}

abbrev pub unit_list_of : LiveNetwork → UnitList
unit_list_of network = record { rows = network.gen_rows; units = map unit_within network.units }
