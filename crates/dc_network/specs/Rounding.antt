-- Exact factors that are rounded have residuals within what rounding explains.
-- Source: Kirchhoff's laws; a number rounded to the nearest is off by at most half a unit of its last place.
use Rattle.std.specs.Prelude.{◌≡◌, ℕ, ◌<◌, ℤ, pos, ◌*ℤ◌, false, List, length, All, Contains, Option}
use Rattle.fraction_theory.specs.Fraction.{Fraction}
use Rattle.exact_fraction.specs.Nearest.{IsNearest}
use Rattle.market_data.specs.Scales.{place_count, place_step}
use Rattle.market_data.specs.declared.scales.FactorPlaces.{FactorPlaces}
use Rattle.net_case.specs.Networks.{LiveNetwork}
use Rattle.net_case.specs.declared.live_parts.NetBranch.{NetBranch}
use Rattle.net_paths.specs.Loops.{kept, AreLoops}
use Rattle.net_paths.specs.declared.loops_of_tree.Member.{Member}
use Rattle.factor_residuals.specs.Kirchhoff.{Column, Flows, bus_spot, loop_spot, reactance_at}
use Rattle.factor_residuals.specs.Residuals.{exceeds}
use Rattle.network_theory.specs.Carrying.{IsCarried}
use Rattle.dc_network.specs.DcNetworks.{dc_branch, dc_network}
use Rattle.dc_network.specs.Laws.{IsSound}

-- a factor in 10^-9 is an exact one rounded to so many places
pub record IsRounded (places : FactorPlaces) (Exact : Fraction → Type 0) (factor : ℤ) : Type 0 where
  pub exact : Fraction
  pub is_exact : Exact exact
  pub units : ℤ
  pub nearest : IsNearest (place_count places) exact units
  pub factor_is : factor ≡ units *ℤ pos (place_step places)

-- factors by the rows of branches: for each live branch that is kept, what it carries of 1 from bus to bus, rounded
abbrev pub AreRounded : LiveNetwork → List ℤ → Option ℕ → FactorPlaces → ℕ → ℕ → Flows → Type 0
AreRounded network xs lost places source sink flow = (l : NetBranch) → Contains (kept lost network.branches) l
    → IsRounded places (IsCarried (dc_network network xs lost) network.reference source sink (dc_branch network xs l)) (flow l.row)

-- these factors as a column of a table, by a name
abbrev pub rounded_column : LiveNetwork → Option ℕ → FactorPlaces → ℕ → ℕ → ℕ → Flows → Column
rounded_column network lost places name source sink flow = record {
  name = name;
  flow = flow;
  step = place_step places;
  branches = kept lost network.branches;
  source = source;
  sink = sink;
}

-- rounding explains what a column misses, at each bus and round each loop
pub record AreExplained (network : LiveNetwork) (xs : List ℤ) (c : Column) : Type 0 where
  pub at_buses : (b : ℕ) → b < length network.buses → exceeds (bus_spot network c b) ≡ false
  pub round_loops : (loops : List (List Member)) → AreLoops c.branches loops → All (λ members. exceeds (loop_spot (reactance_at network xs) c members) ≡ false) loops

-- Factors that are the exact ones rounded have residuals within what rounding explains.
abbrev pub LawOfRounding : Type 0
LawOfRounding = (network : LiveNetwork) (xs : List ℤ) (lost : Option ℕ) (places : FactorPlaces) (name source sink : ℕ) (flow : Flows) → IsSound network xs lost
    → source < length network.buses → sink < length network.buses
    → AreRounded network xs lost places source sink flow → AreExplained network xs (rounded_column network lost places name source sink flow)
