-- What the bus residuals of shift factors say of the flows of any injection.
-- Source: Wood and Wollenberg, on generation shift factors; Kirchhoff's current law.
use Rattle.std.specs.Prelude.{◌≡◌, ℕ, ◌<◌, ◌==◌, ℤ, pos, unsigned_abs, List, length, if◌then◌else◌}
use Rattle.std.specs.Option.{option_map_or}
use Rattle.fraction_theory.specs.Fraction.{Fraction, whole, over, ◌-ℚ◌, ◌*ℚ◌}
use Rattle.fraction_theory.specs.Order.{◌≤ℚ◌}
use Rattle.fraction_theory.specs.Signs.{abs_ℚ}
use Rattle.fraction_theory.specs.Sums.{sum_by}
use Rattle.market_data.specs.Scales.{factor_one}
use Rattle.net_case.specs.Networks.{LiveNetwork}
use Rattle.net_case.specs.declared.live_parts.NetBranch.{NetBranch}
use Rattle.net_paths.specs.Connection.{bus_number}
use Rattle.factor_tables.specs.Factors.{FactorRecords, factor_at}
use Rattle.factor_residuals.specs.declared.spots.Residual.{Residual}
use Rattle.factor_residuals.specs.Residuals.{IsBusResidual, places_below}

-- what goes in at the bus at each place, in any unit
abbrev pub Injection : Type 0
Injection = ℕ → Fraction

-- a factor by the number of its billionths
abbrev pub billionths : ℤ → Fraction
billionths n = over n factor_one

-- the flow over the branch of a row, without offsets: the sum over the buses of its factor times what goes in there
abbrev pub flow_of : LiveNetwork → FactorRecords → Injection → ℕ → Fraction
flow_of network shift p row = sum_by (λ i. billionths (factor_at shift.entries (row, bus_number network i)) *ℚ p i) (places_below (length network.buses))

-- what a branch takes from the bus at a place: its flow where it begins there, and less where it ends there
abbrev pub taken_flow : (ℕ → Fraction) → ℕ → NetBranch → Fraction
taken_flow flow b l = (if l.from == b then flow l.row else whole (pos 0)) -ℚ (if l.to == b then flow l.row else whole (pos 0))

-- the net outflow of the bus at a place
abbrev pub outflow : LiveNetwork → FactorRecords → Injection → ℕ → Fraction
outflow network shift p b = sum_by (taken_flow (flow_of network shift p) b) network.branches

-- the size of the greatest residual, in 10^-9
abbrev pub greatest : Residual → ℕ
greatest residual = option_map_or (λ s. unsigned_abs s.value) residual.most 0

-- Where the injections sum to 0, the net outflow at a bus differs from what goes in there by at most the greatest bus residual times the
-- sum of the sizes of the injections.
abbrev pub LawOfInjections : Type 0
LawOfInjections = (network : LiveNetwork) (shift : FactorRecords) (residual : Residual) (p : Injection) → IsBusResidual network shift residual
    → sum_by p (places_below (length network.buses)) ≡ whole (pos 0) → (b : ℕ) → b < length network.buses
    → abs_ℚ (outflow network shift p b -ℚ p b) ≤ℚ (billionths (pos (greatest residual)) *ℚ sum_by (λ i. abs_ℚ (p i)) (places_below (length network.buses)))
