-- The live network of a case, by what its rows say.
use Rattle.std.specs.Prelude.{◌≡◌, ℕ, ◌≤◌, List, [], length, Option}
use Rattle.std.specs.List.{AllZip}
use Rattle.market_data.specs.Scales.{most_buses, most_lines, most_units}
use Rattle.case_text.specs.Matrices.{CaseMatrices}
use Rattle.record_reading.specs.Records.{Record}
use Rattle.net_case.specs.Networks.{LiveNetwork}
use Rattle.net_case.specs.declared.live_parts.NetBranch.{NetBranch}
use Rattle.net_case.specs.declared.live_parts.Branches.{Branches}
use Rattle.net_case.specs.declared.live_parts.Branches.TheVariants as branches
use Rattle.network_meaning.specs.BusRows.{BusRow, SaysBus, AreApart, in_service, IsReference, IsPlaced}
use Rattle.network_meaning.specs.Units.{AreGiven, IsGenRow}
use Rattle.network_meaning.specs.BranchRows.{IsBranchRow}

-- `pool` does not even count branch rows. All other commands read them.
abbrev pub AreBranches : Branches → List (ℕ × Option ℕ) → List Record → ℕ → List NetBranch → Type 0
AreBranches branches.Skip buses matrix count live = (count ≡ 0) × (live ≡ [])
AreBranches (branches.Read rating) buses matrix count live =
    (length matrix ≤ most_lines) × (count ≡ length matrix) × AreGiven (IsBranchRow rating buses) matrix live

pub record IsLiveNetwork (read : Branches) (case : CaseMatrices) (network : LiveNetwork) : Type 0 where
  pub rows : List BusRow
  -- bus rows
  pub bus_count : length case.bus ≤ most_buses
  pub bus_rows : AllZip SaysBus case.bus rows
  pub apart : AreApart rows
  pub buses : network.buses ≡ in_service rows
  pub reference : IsReference rows network.reference
  pub places : AllZip (IsPlaced network.buses) rows network.bus_rows
  -- gen rows, rows out of service counted
  pub gen_count : length case.generators ≤ most_units
  pub gen_rows : network.gen_rows ≡ length case.generators
  pub units : AreGiven (IsGenRow network.bus_rows) case.generators network.units
  -- branch rows
  pub branches : AreBranches read network.bus_rows case.branch network.branch_rows network.branches
