-- A network as a linear system: its columns are the angles of the buses other than the reference, whose angle is 0, and its rows are what
-- branches carry and what is put in at buses.
-- Source: the nodal susceptance matrix of the DC power flow (Wood and Wollenberg; Bbus and Bf of the MATPOWER User's Manual).
use Rattle.std.specs.Prelude.{◌≡◌, ◌≢◌, ◌↔◌, ℕ, ◌+◌, ◌*◌, ◌<◌, List, length, pos, slice_index_or, take}
use Rattle.std.specs.List.{Contains}
use Rattle.exact_flows.specs.declared.rows.Row.{Row}
use Rattle.exact_flows.specs.declared.rows.Row.TheVariants.{Flow, Injection}
use Rattle.exact_flows.specs.declared.stop.FlowStop.{FlowStop}
use Rattle.exact_flows.specs.declared.stop.FlowStop.TheVariants.{Passed as StoppedBy, Memory as NoMemory}
use Rattle.exact_fraction.specs.declared.Op.{Op}
use Rattle.exact_fraction.specs.declared.Op.TheVariants.{Plus}
use Rattle.exact_fraction.specs.declared.Passed.{Passed}
use Rattle.exact_fraction.specs.Passes.{IsTooLarge, Passes}
use Rattle.fraction_theory.specs.Fraction.{Fraction, whole, ◌+ℚ◌, ◌*ℚ◌}
use Rattle.fraction_theory.specs.Sums.{sum_by}
use Rattle.linear_system.specs.Pairs.{IsSystemPair}
use Rattle.linear_system.specs.Systems.{System, IsSystem}
use Rattle.network_theory.specs.Carrying.{put_through}
use Rattle.network_theory.specs.Networks.{Branch, Network}

-- what the branch carries for each unit of the angle at a place: its susceptance at its first bus, the opposite at its second
unfoldable pub flow_coefficient : Branch → ℕ → Fraction
flow_coefficient b j = put_through b.from b.to j *ℚ b.susceptance

-- what it takes out of bus i for each unit of the angle at j
unfoldable pub bus_term : ℕ → ℕ → Branch → Fraction
bus_term i j b = put_through b.from b.to i *ℚ flow_coefficient b j

abbrev pub no_branch : Branch
no_branch = record { from = 0; to = 0; susceptance = whole (pos 0) }

-- what a row gives for each unit of the angle at j: what the branch carries, or what all branches take out of the bus
abbrev pub coefficient : List Branch → Row → ℕ → Fraction
coefficient branches (Flow l) j = flow_coefficient (slice_index_or branches l no_branch) j
coefficient branches (Injection i) j = sum_by (bus_term i j) branches

-- An angle is named by the place of its bus, and the rows by the numbers from then on.
abbrev pub name : ℕ → Row → ℕ
name buses (Flow l) = 2 * buses + l
name buses (Injection i) = buses + i

-- the branch is one of the network, or the bus is, and not the reference
abbrev pub IsRowOf : Network → ℕ → Row → Type 0
IsRowOf n reference (Flow l) = l < length n.branches
IsRowOf n reference (Injection i) = (i < n.buses) × (i ≢ reference)

-- the row of this name is one of the network's
pub record IsSystemRow (n : Network) (reference : ℕ) (s : System) (r : ℕ) : Type 0 where
  pub row : Row
  pub is : IsRowOf n reference row
  pub named : r ≡ name n.buses row
  pub coefficients : (j : ℕ) → Contains s.columns j → s.coefficient r j ≡ coefficient n.branches row j

-- A system of some of the network's rows, or of all. Nothing is optimized: no variable has a price, and none may be other than 0. So each of
-- its numbers is 0 or 1, a coefficient, an entry of a dictionary of these rows, or the first terms of the sum that is such an entry.
pub record IsFlowSystem (n : Network) (reference : ℕ) (s : System) : Type 0 where
  pub is_system : IsSystem s
  pub column : (j : ℕ) → Contains s.columns j ↔ ((j < n.buses) × (j ≢ reference))
  pub row : (r : ℕ) → Contains s.rows r → IsSystemRow n reference s r
  pub blank : (w : ℕ) → Contains s.variables w → (s.price w ≡ whole (pos 0)) × (s.low w ≡ whole (pos 0)) × (s.high w ≡ whole (pos 0))

-- The first terms of what is put in at bus i for each unit of the angle at j, and the next term: their sum is too large.
pub record IsSumPair (branches : List Branch) (bound i j : ℕ) (op : Op) (left right : Fraction) : Type 0 where
  pub k : ℕ
  pub within : k < length branches
  pub adds : op ≡ Plus
  pub first : left ≡ sum_by (bus_term i j) (take k branches)
  pub next : right ≡ bus_term i j (slice_index_or branches k no_branch)
  pub too_large : IsTooLarge bound (left +ℚ right)
  pub passes : Passes bound op left right

-- Two numbers that making the flows of a network may have to add or to multiply, whose outcome passes the bound: of a sum that makes a
-- coefficient, or a working pair of a system of some of the network's rows, in which nothing has a price or a bound other than 0.
pub data IsFlowPair (n : Network) (reference bound : ℕ) (op : Op) (left right : Fraction) : Type 0 where
  of_sum : (i j : ℕ) → IsRowOf n reference (Injection i) → IsRowOf n reference (Injection j) → IsSumPair n.branches bound i j op left right → IsFlowPair n reference bound op left right
  of_system : (s : System) → IsFlowSystem n reference s → IsSystemPair s bound op left right → IsFlowPair n reference bound op left right

-- Where numbers passed the bound, P holds of them.
abbrev pub OnPassed : {N : Type 0} → FlowStop N → (Passed N → Type 0) → Type 0
OnPassed (StoppedBy e) P = P e
OnPassed NoMemory P = Unit {0}

abbrev pub IsFlowPassed : {N : Type 0} → (N → Fraction) → ℕ → Network → ℕ → Passed N → Type 0
IsFlowPassed value bound n reference e = IsFlowPair n reference bound e.op (value e.left) (value e.right)

abbrev pub IsFlowStop : {N : Type 0} → (N → Fraction) → ℕ → Network → ℕ → FlowStop N → Type 0
IsFlowStop value bound n reference stop = OnPassed stop (IsFlowPassed value bound n reference)
