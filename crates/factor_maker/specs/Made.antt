-- The tables of factors that are made.
-- Source: generation shift factors and line outage distribution factors (Wood and Wollenberg).
use Rattle.std.specs.Prelude.{◌≡◌, ℕ, ℤ, List, length, map}
use Rattle.std.specs.List.{AllZip, flat_map}
use Rattle.fraction_theory.specs.Fraction.{Fraction}
use Rattle.exact_fraction.specs.Nearest.{IsNearest}
use Rattle.market_data.specs.Scales.{place_count}
use Rattle.market_data.specs.declared.scales.FactorPlaces.{FactorPlaces}
use Rattle.net_case.specs.Networks.{LiveNetwork}
use Rattle.net_case.specs.declared.live_parts.NetBranch.{NetBranch}
use Rattle.net_paths.specs.Connection.{bus_number}
use Rattle.net_paths.specs.Detours.{IsBranchOf, others}
use Rattle.factor_tables.specs.Factors.{Entry, FactorRecords}
use Rattle.factor_residuals.specs.Residuals.{places_below}
use Rattle.dc_network.specs.DcNetworks.{IsShiftFactor, IsOutageFactor}
use Rattle.dc_network.specs.Rounding.{IsRounded}

-- so many units of the last of so many places are nearest to the exact factor
pub record AreNearestUnits (places : FactorPlaces) (IsFactor : Fraction → Type 0) (units : ℤ) : Type 0 where
  pub exact : Fraction
  pub is_exact : IsFactor exact
  pub nearest : IsNearest (place_count places) exact units

-- ---- a shift table: by branch, and for each by bus in row order, the reference too
abbrev pub shift_pairs : LiveNetwork → List (NetBranch × ℕ)
shift_pairs network = flat_map (λ l. map (λ i. (l, i)) (places_below (length network.buses))) network.branches

pub record IsShiftEntry (network : LiveNetwork) (xs : List ℤ) (places : FactorPlaces) (pair : NetBranch × ℕ) (entry : Entry) : Type 0 where
  pub pair_is : entry.0 ≡ (pair.0.row, bus_number network pair.1)
  pub factor : IsRounded places (IsShiftFactor network xs pair.0 pair.1) entry.1

pub record IsMadeShift (network : LiveNetwork) (xs : List ℤ) (places : FactorPlaces) (shift : FactorRecords) : Type 0 where
  pub places_are : shift.places ≡ places
  pub entries : AllZip (IsShiftEntry network xs places) (shift_pairs network) shift.entries

-- ---- an outage table: by listed outage, and for each by branch other than it
abbrev pub loss_pairs : LiveNetwork → List NetBranch → List (NetBranch × NetBranch)
loss_pairs network lost = flat_map (λ k. map (λ l. (l, k)) (others k.row network.branches)) lost

pub record IsLossEntry (network : LiveNetwork) (xs : List ℤ) (places : FactorPlaces) (pair : NetBranch × NetBranch) (entry : Entry) : Type 0 where
  pub pair_is : entry.0 ≡ (pair.0.row, pair.1.row)
  pub factor : IsRounded places (IsOutageFactor network xs pair.0 pair.1) entry.1

pub record IsMadeLoss (network : LiveNetwork) (xs : List ℤ) (outages : List ℕ) (places : FactorPlaces) (loss : FactorRecords) : Type 0 where
  pub places_are : loss.places ≡ places
  pub lost : List NetBranch
  pub lost_are : AllZip (IsBranchOf network) outages lost
  pub entries : AllZip (IsLossEntry network xs places) (loss_pairs network lost) loss.entries
