-- What exact factors are: flows that meet Kirchhoff's laws, whose residuals are all 0.
-- Source: Kirchhoff's laws; Wood and Wollenberg, on generation shift factors and line outage distribution factors.
use Rattle.std.specs.Prelude.{◌≡◌, ℕ, ◌<◌, ◌^◌, ◌↔◌, Bool, ℤ, pos, List, length, All, Contains, Option, Some, None, if◌then◌else◌}
use Rattle.fraction_theory.specs.Fraction.{Fraction, whole, over, ◌*ℚ◌, neg_ℚ}
use Rattle.fraction_theory.specs.Order.{◌≤ℚ◌}
use Rattle.fraction_theory.specs.Signs.{abs_ℚ}
use Rattle.fraction_theory.specs.Sums.{sum_by}
use Rattle.market_data.specs.Scales.{scaled_reactance_places}
use Rattle.net_case.specs.Networks.{LiveNetwork, IsNetwork}
use Rattle.net_case.specs.declared.live_parts.NetBranch.{NetBranch}
use Rattle.net_paths.specs.Connection.{JoinAll}
use Rattle.net_paths.specs.Loops.{kept, AreLoops}
use Rattle.net_paths.specs.declared.loops_of_tree.Member.{Member}
use Rattle.outage_list.specs.Listing.{IsOutage}
use Rattle.factor_residuals.specs.Injections.{taken_flow}
use Rattle.factor_residuals.specs.Kirchhoff.{reactance_at}
use Rattle.factor_residuals.specs.Residuals.{AreReactances}
use Rattle.network_theory.specs.Networks.{IsTheoryNetwork, IsConnected}
use Rattle.network_theory.specs.Carrying.{IsCarried, put_through}
use Rattle.dc_network.specs.DcNetworks.{ArePositive, dc_branch, dc_network}

-- the sum round a loop of reactance times ratio times flow, against it where a branch is passed from T_BUS to F_BUS
abbrev pub directed : Bool → Fraction → Fraction
directed forward x = if forward then x else neg_ℚ x

abbrev pub loop_drop : LiveNetwork → List ℤ → (ℕ → Fraction) → List Member → Fraction
loop_drop network xs flow members = sum_by (λ m. directed m.forward (over (reactance_at network xs m.branch) (10 ^ scaled_reactance_places) *ℚ flow m.branch)) members

-- Flows by the rows of branches, of 1 that goes from one bus to another over the live branches but for one that is lost: at each bus what
-- leaves over them is what goes in, and round each loop the drops sum to 0.
pub record MeetsKirchhoff (network : LiveNetwork) (xs : List ℤ) (lost : Option ℕ) (source sink : ℕ) (flow : ℕ → Fraction) : Type 0 where
  pub at_buses : (b : ℕ) → b < length network.buses → sum_by (taken_flow flow b) (kept lost network.branches) ≡ put_through source sink b
  pub round_loops : (loops : List (List Member)) → AreLoops (kept lost network.branches) loops → All (λ members. loop_drop network xs flow members ≡ whole (pos 0)) loops

-- what is lost, if anything, leaves all buses joined
abbrev pub LeavesJoined : LiveNetwork → Option ℕ → Type 0
LeavesJoined network None = JoinAll network.branches (length network.buses)
LeavesJoined network (Some row) = JoinAll network.branches (length network.buses) × IsOutage network row

-- a live network whose branches have reactances above 0 and join all its buses
pub record IsSound (network : LiveNetwork) (xs : List ℤ) (lost : Option ℕ) : Type 0 where
  pub network_is : IsNetwork network
  pub reactances : AreReactances network xs
  pub positive : ArePositive xs
  pub joined : LeavesJoined network lost

-- it is a network of buses and branches, each bus joined to the reference
abbrev pub LawOfTheNetwork : Type 0
LawOfTheNetwork = (network : LiveNetwork) (xs : List ℤ) (lost : Option ℕ) → IsSound network xs lost
    → IsTheoryNetwork (dc_network network xs lost) × IsConnected (dc_network network xs lost) network.reference

-- exact factors, by the rows of branches: what each live branch that is kept carries of 1 from bus to bus
abbrev pub AreExact : LiveNetwork → List ℤ → Option ℕ → ℕ → ℕ → (ℕ → Fraction) → Type 0
AreExact network xs lost source sink flow = (l : NetBranch) → Contains (kept lost network.branches) l
    → IsCarried (dc_network network xs lost) network.reference source sink (dc_branch network xs l) (flow l.row)

-- The flows that meet Kirchhoff's laws are what branches carry by angles, and no others: exact factors are those whose residuals are all 0.
abbrev pub LawOfExactFactors : Type 0
LawOfExactFactors = (network : LiveNetwork) (xs : List ℤ) (lost : Option ℕ) (source sink : ℕ) (flow : ℕ → Fraction) → IsSound network xs lost
    → source < length network.buses → sink < length network.buses
    → MeetsKirchhoff network xs lost source sink flow ↔ AreExact network xs lost source sink flow

-- there are exact factors, for each branch one, of a size of at most 1
abbrev pub LawOfOneFactor : Type 0
LawOfOneFactor = (network : LiveNetwork) (xs : List ℤ) (lost : Option ℕ) (source sink : ℕ) (l : NetBranch) → IsSound network xs lost
    → source < length network.buses → sink < length network.buses → Contains (kept lost network.branches) l
    → (factor : Fraction) × IsCarried (dc_network network xs lost) network.reference source sink (dc_branch network xs l) factor
    × (abs_ℚ factor ≤ℚ whole (pos 1))
    × ((other : Fraction) → IsCarried (dc_network network xs lost) network.reference source sink (dc_branch network xs l) other → other ≡ factor)
