-- By how much the flows that factors give miss Kirchhoff's laws, at a bus and round a loop.
-- Source: Kirchhoff's laws; Wood and Wollenberg, on generation shift factors and line outage distribution factors.
use Rattle.std.specs.Prelude.{ℕ, ◌*◌, ◌==◌, ◌||◌, ℤ, pos, ◌-ℤ◌, ◌+ℤ◌, ◌*ℤ◌, neg_ℤ, unsigned_abs, Bool, List, [], ◌∷◌, sum_by, count_by, Option, Some, None, slice_index_or, if◌then◌else◌}
use Rattle.market_data.specs.Scales.{factor_one}
use Rattle.market_data.specs.WholeSums.{int_sum}
use Rattle.net_case.specs.Networks.{LiveNetwork, branch_place}
use Rattle.net_case.specs.declared.live_parts.NetBranch.{NetBranch}
use Rattle.net_paths.specs.Connection.{bus_number}
use Rattle.net_paths.specs.declared.loops_of_tree.Member.{Member}
use Rattle.factor_residuals.specs.declared.spots.Spot.{Spot}

-- the flow over each live branch, by its row
abbrev pub Flows : Type 0
Flows = ℕ → ℤ

-- The flows, in 10^-9, of one MW that goes in at the bus of one place and out at that of another, over some branches. They are named by
-- the number of the bus where it goes in, or by the row of the branch that was lost. Each is rounded to a whole number of steps.
pub record Column : Type 0 where
  pub name : ℕ
  pub flow : Flows
  pub step : ℕ
  pub branches : List NetBranch
  pub source : ℕ
  pub sink : ℕ

-- ---- at a bus
-- what a branch takes from the bus at a place: its flow where it begins there, and less where it ends there
abbrev pub taken : Flows → ℕ → NetBranch → ℤ
taken flow b l = (if l.from == b then flow l.row else pos 0) -ℤ (if l.to == b then flow l.row else pos 0)

-- what leaves the bus over branches, less what enters it
abbrev pub net_outflow : Flows → List NetBranch → ℕ → ℤ
net_outflow flow branches b = int_sum (taken flow b) branches

-- how many branches stand at the bus
abbrev pub branches_at : List NetBranch → ℕ → ℕ
branches_at branches b = count_by (λ l. l.from == b || l.to == b) branches

-- one MW at a place, in 10^-9
abbrev pub one_at : ℕ → ℕ → ℤ
one_at place b = if place == b then pos factor_one else pos 0

-- the net outflow less what goes in at the bus
abbrev pub bus_miss : Column → ℕ → ℤ
bus_miss c b = net_outflow c.flow c.branches b -ℤ one_at c.source b +ℤ one_at c.sink b

-- Rounding explains half a step for each branch at the bus. The bound is in 10^-10.
abbrev pub bus_spot : LiveNetwork → Column → ℕ → Spot
bus_spot network c b = record { value = bus_miss c b; bound = pos (5 * c.step * branches_at c.branches b); at = bus_number network b; of = c.name }

-- ---- round a loop
abbrev pub value_at : List ℤ → Option ℕ → ℤ
value_at xs None = pos 0
value_at xs (Some place) = slice_index_or xs place (pos 0)

-- the reactance times the ratio of the branch of a row, in 10^-18, where the live branches have these
abbrev pub reactance_at : LiveNetwork → List ℤ → ℕ → ℤ
reactance_at network xs row = value_at xs (branch_place network (pos row))

abbrev pub directed : Bool → ℤ → ℤ
directed forward x = if forward then x else neg_ℤ x

-- the sum round a loop of reactance times ratio times flow, against it where a branch is passed from T_BUS to F_BUS, in 10^-27
abbrev pub loop_miss : Flows → Flows → List Member → ℤ
loop_miss x flow members = int_sum (λ m. directed m.forward (x m.branch *ℤ flow m.branch)) members

abbrev pub first_branch : List Member → ℕ
first_branch [] = 0
first_branch (m ∷ members) = m.branch

-- Rounding explains half a step for each branch, by the size of its reactance times ratio. The bound is in 10^-28. A loop is named by
-- its first branch.
abbrev pub loop_spot : Flows → Column → List Member → Spot
loop_spot x c members = record {
  value = loop_miss x c.flow members;
  bound = pos (5 * c.step * sum_by (λ m. unsigned_abs (x m.branch)) members);
  at = first_branch members;
  of = c.name;
}
