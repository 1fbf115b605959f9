-- The live network of a case by the DC model, and its exact factors.
-- Source: the DC power flow, where a transformer's ratio multiplies its reactance (MATPOWER User's Manual); generation shift factors and line
-- outage distribution factors (Wood and Wollenberg).
use Rattle.std.specs.Prelude.{ℕ, ◌^◌, ℤ, pos, ◌<ℤ◌, List, length, map, All, Option, Some, None}
use Rattle.fraction_theory.specs.Fraction.{Fraction, over, recip_ℚ}
use Rattle.market_data.specs.Scales.{scaled_reactance_places}
use Rattle.net_case.specs.Networks.{LiveNetwork}
use Rattle.net_case.specs.declared.live_parts.NetBranch.{NetBranch}
use Rattle.net_paths.specs.Loops.{kept}
use Rattle.factor_residuals.specs.Kirchhoff.{reactance_at}
use Rattle.network_theory.specs.Networks.{Branch, Network}
use Rattle.network_theory.specs.Carrying.{IsCarried}

-- A branch with 1 over its reactance times ratio, which is given in 10^-18 (`scaled_reactance_places`), as its susceptance.
abbrev pub dc_branch : LiveNetwork → List ℤ → NetBranch → Branch
dc_branch network xs l = record { from = l.from; to = l.to; susceptance = recip_ℚ (over (reactance_at network xs l.row) (10 ^ scaled_reactance_places)) }

-- the live branches without the lost one, where one is lost
abbrev pub dc_network : LiveNetwork → List ℤ → Option ℕ → Network
dc_network network xs lost = record { buses = length network.buses; branches = map (dc_branch network xs) (kept lost network.branches) }

-- each live branch has a reactance above 0
abbrev pub ArePositive : List ℤ → Type 0
ArePositive xs = All (λ x. pos 0 <ℤ x) xs

-- the shift factor of a branch for the bus at a place: what it carries of 1 MW from there to the reference
abbrev pub IsShiftFactor : LiveNetwork → List ℤ → NetBranch → ℕ → Fraction → Type 0
IsShiftFactor network xs l i factor = IsCarried (dc_network network xs None) network.reference i network.reference (dc_branch network xs l) factor

-- the outage factor of a branch for another that is lost: what it carries of 1 MW from F_BUS to T_BUS of that one, over the others
abbrev pub IsOutageFactor : LiveNetwork → List ℤ → NetBranch → NetBranch → Fraction → Type 0
IsOutageFactor network xs l k factor = IsCarried (dc_network network xs (Some k.row)) network.reference k.from k.to (dc_branch network xs l) factor
