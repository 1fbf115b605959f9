-- The dictionary of a network while its rows are put in, and while angles are exchanged for injections.
-- Source: dictionaries (Chvátal, Linear Programming), of the nodal susceptance matrix of the DC power flow (Wood and Wollenberg); the order of
-- columns and rows is own.
use Rattle.std.specs.Prelude.{◌≡◌, ℕ, ◌+◌, ◌-◌, ◌<◌, ◌≤◌, false, if◌then◌else◌, List, length, nat_lt, slice_index}
use Rattle.std.specs.List.{Contains}
use Rattle.exact_flows.specs.FlowSystems.{IsFlowSystem, IsRowOf, coefficient, name}
use Rattle.exact_flows.specs.declared.rows.Row.{Row}
use Rattle.exact_flows.specs.declared.rows.Row.TheVariants.{Flow, Injection}
use Rattle.linear_dict.specs.Dictionaries.{Dictionary, IsDictionary, note_of, system_in}
use Rattle.linear_dict.specs.Notes.{blank}
use Rattle.market_data.specs.Scales.{most_buses, most_lines}
use Rattle.network_theory.specs.Networks.{Network}

-- the bus whose angle is the column at a place
unfoldable pub bus_of : ℕ → ℕ → ℕ
bus_of reference column = if nat_lt column reference then column else column + 1

-- the place of the column that is the angle of a bus
unfoldable pub column_place : ℕ → ℕ → ℕ
column_place reference bus = if nat_lt bus reference then bus else bus - 1

-- the row at a place
unfoldable pub row_at : ℕ → ℕ → ℕ → Row
row_at branches reference place = if nat_lt place branches then Flow place else Injection (bus_of reference (place - branches))

-- its number is small enough for a name
abbrev pub IsSmall : Row → Type 0
IsSmall (Flow l) = l ≤ most_lines
IsSmall (Injection i) = i ≤ most_buses

-- where it is a branch's, that is one of so many
abbrev pub IsAmongBranches : ℕ → Row → Type 0
IsAmongBranches count (Flow l) = l < count
IsAmongBranches count (Injection i) = Unit {0}

-- the names of all columns
pub record AreAngles (buses reference : ℕ) (names : List ℕ) : Type 0 where
  pub count : length names + 1 ≡ buses
  pub at : (c : ℕ) → c < length names → slice_index names c ≡ bus_of reference c

-- So many of the network's rows are put in and basic, and the angles are the others. Nothing is noted of any.
pub record IsBuilt (n : Network) (reference count : ℕ) (d : Dictionary) : Type 0 where
  pub live : d.spent ≡ false
  pub sound : IsDictionary d
  pub columns : AreAngles n.buses reference d.columns
  pub others : d.others ≡ d.columns
  pub basics : d.basics ≡ d.rows
  pub row_count : length d.rows ≡ count
  pub named : (k : ℕ) → k < count → slice_index d.rows k ≡ name n.buses (row_at (length n.branches) reference k)
  pub coefficients : (k c : ℕ) → k < count → c < length d.columns
      → (system_in d).coefficient (slice_index d.rows k) (slice_index d.columns c) ≡ coefficient n.branches (row_at (length n.branches) reference k) (slice_index d.columns c)
  pub blank_notes : (w : ℕ) → Contains d.names w → note_of d w ≡ blank

-- All rows are put in, and the first angles, so many, are exchanged for the injections of their buses.
pub record IsExchanged (n : Network) (reference done : ℕ) (d : Dictionary) : Type 0 where
  pub live : d.spent ≡ false
  pub sound : IsDictionary d
  pub system : IsFlowSystem n reference (system_in d)
  pub complete : (row : Row) → IsRowOf n reference row → Contains d.rows (name n.buses row)
  pub other_count : length d.others + 1 ≡ n.buses
  pub basic_count : length d.basics ≡ length n.branches + length d.others
  pub flow : (l : ℕ) → l < length n.branches → slice_index d.basics l ≡ name n.buses (Flow l)
  pub exchanged : (c : ℕ) → c < length d.others → c < done
      → (slice_index d.others c ≡ name n.buses (Injection (bus_of reference c))) × (slice_index d.basics (length n.branches + c) ≡ bus_of reference c)
  pub waiting : (c : ℕ) → c < length d.others → done ≤ c
      → (slice_index d.others c ≡ bus_of reference c) × (slice_index d.basics (length n.branches + c) ≡ name n.buses (Injection (bus_of reference c)))
