-- The columns of a table that is made: what each branch carries of 1 that goes from one bus to another.
use Rattle.std.specs.Prelude.{◌≡◌, ℕ, ◌<◌, ℤ, pos, List, [], length, map, Some, slice_index_or}
use Rattle.std.specs.List.{AllZip}
use Rattle.fraction_theory.specs.Fraction.{Fraction}
use Rattle.market_data.specs.declared.scales.FactorPlaces.{FactorPlaces}
use Rattle.net_case.specs.Networks.{LiveNetwork}
use Rattle.net_case.specs.declared.live_parts.NetBranch.{NetBranch}
use Rattle.net_paths.specs.Connection.{bus_number}
use Rattle.net_paths.specs.Detours.{IsBranchOf, others}
use Rattle.factor_residuals.specs.Kirchhoff.{reactance_at}
use Rattle.network_theory.specs.Networks.{Network}
use Rattle.network_theory.specs.Carrying.{IsCarried}
use Rattle.flow_guess.specs.Links.{Grid, grid_network}
use Rattle.flow_guess.specs.Told.{AreNearest}
use Rattle.flow_guess.specs.declared.links.Link.{Link}
use Rattle.dc_network.specs.DcNetworks.{IsOutageFactor, IsShiftFactor}
use Rattle.factor_tables.specs.Made.{made_pair}
use Rattle.factor_tables.specs.declared.made.MadeFactor.{MadeFactor}
use Rattle.factor_maker.specs.Made.{AreNearestUnits, loss_pairs}

-- a branch as guesses take it: its reactance in 10^-18
abbrev pub link_of : LiveNetwork → List ℤ → NetBranch → Link
link_of network xs l = record { from = l.from; to = l.to; reactance = reactance_at network xs l.row }

-- by branch, what it carries from one bus to another
abbrev pub AreCarried : {N : Type 0} → (N → Fraction) → Network → ℕ → ℕ → ℕ → List N → Type 0
AreCarried value n reference source sink flows = AllZip (λ b flow. IsCarried n reference source sink b (value flow)) n.branches flows

-- by branch, the nearest units of it
abbrev pub AreColumn : Network → ℕ → ℕ → ℕ → FactorPlaces → List ℤ → Type 0
AreColumn n reference source sink places units = AllZip (λ b k. AreNearestUnits places (IsCarried n reference source sink b) k) n.branches units

-- for each bus the column of what goes from there to the reference
pub record AreColumns (n : Network) (reference : ℕ) (places : FactorPlaces) (columns : List (List ℤ)) : Type 0 where
  pub each : (i : ℕ) → i < length columns → AreColumn n reference i reference places (slice_index_or columns i [])

-- the columns of a guess that tells all: each number is nearest to what the link carries
pub record AreTold (grid : Grid) (source sink places : ℕ) (units : List ℤ) : Type 0 where
  pub count : length units ≡ length grid.links
  pub nearest : AreNearest (grid_network grid) grid.reference source sink places grid.links (map Some units)

-- ---- records
-- the units of a branch at a place in a column
abbrev pub made_of : List NetBranch → ℕ → List ℤ → ℕ → MadeFactor
made_of branches of units b = record { branch = slice_index_or (map (λ l. l.row) branches) b 0; of = of; units = slice_index_or units b (pos 0) }

-- the record of the branch at a place and the bus at another
abbrev pub shift_made : LiveNetwork → List (List ℤ) → ℕ → ℕ → MadeFactor
shift_made network columns b i = made_of network.branches (bus_number network i) (slice_index_or columns i []) b

-- a record of a pair of rows and numbers, with the nearest units of a factor
pub record IsMade (places : FactorPlaces) (pair : ℕ × ℕ) (IsFactor : Fraction → Type 0) (made : MadeFactor) : Type 0 where
  pub pair_is : made_pair made ≡ pair
  pub units : AreNearestUnits places IsFactor made.units

-- the records of an outage, by branch other than it
abbrev pub IsLossMade : LiveNetwork → List ℤ → FactorPlaces → NetBranch × NetBranch → MadeFactor → Type 0
IsLossMade network xs places pair = IsMade places (pair.0.row, pair.1.row) (IsOutageFactor network xs pair.0 pair.1)

abbrev pub AreOutageRecords : LiveNetwork → List ℤ → FactorPlaces → NetBranch → List MadeFactor → Type 0
AreOutageRecords network xs places k records = AllZip (IsLossMade network xs places) (map (λ l. (l, k)) (others k.row network.branches)) records

-- those of all listed outages
pub record AreLossRecords (network : LiveNetwork) (xs : List ℤ) (places : FactorPlaces) (outages : List ℕ) (records : List MadeFactor) : Type 0 where
  pub lost : List NetBranch
  pub lost_are : AllZip (IsBranchOf network) outages lost
  pub made : AllZip (IsLossMade network xs places) (loss_pairs network lost) records

-- those of shift factors
abbrev pub IsShiftMade : LiveNetwork → List ℤ → FactorPlaces → NetBranch × ℕ → MadeFactor → Type 0
IsShiftMade network xs places pair = IsMade places (pair.0.row, bus_number network pair.1) (IsShiftFactor network xs pair.0 pair.1)
