-- The network that branches in code stand for, and the flows that are told of it.
-- Source: the DC power flow and its generation shift factors (Wood and Wollenberg); the order of the flows is own.
use Rattle.std.specs.Prelude.{◌≡◌, ℕ, ◌*◌, ◌+◌, ◌<◌, List, length, map, slice_get, Some}
use Rattle.exact_flows.specs.declared.line.Line.{Line}
use Rattle.fraction_theory.specs.Fraction.{Fraction}
use Rattle.network_theory.specs.Carrying.{IsCarried}
use Rattle.network_theory.specs.Networks.{Branch, Network, StandsAt}

abbrev pub line_branch : {N : Type 0} → (N → Fraction) → Line N → Branch
line_branch value line = record { from = line.from; to = line.to; susceptance = value line.susceptance }

-- so many buses with these branches between them
abbrev pub line_network : {N : Type 0} → (N → Fraction) → ℕ → List (Line N) → Network
line_network value buses lines = record { buses = buses; branches = map (line_branch value) lines }

-- By branch and by bus, branch by branch: what the branch carries of 1 that is put in at the bus and taken out at the reference.
pub record AreFlows {N : Type 0} (value : N → Fraction) (n : Network) (reference : ℕ) (flows : List N) : Type 0 where
  pub count : length flows ≡ length n.branches * n.buses
  pub carried : (l i : ℕ) (b : Branch) (flow : N) → StandsAt n l b → i < n.buses → slice_get flows (l * n.buses + i) ≡ Some flow → IsCarried n reference i reference b (value flow)
