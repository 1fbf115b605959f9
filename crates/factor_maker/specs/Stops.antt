-- Why no factors are made.
use Rattle.std.specs.Prelude.{◌≡◌, ℕ, ◌<◌, ◌≤◌, ◌*◌, ℤ, pos, ◌≤ℤ◌, List, ◌∷◌, ◌++◌, ◌⊎◌, length, map, Contains, Some, None, slice_index_or}
use Rattle.fraction_theory.specs.Fraction.{Fraction}
use Rattle.exact_fraction.specs.Passes.{Passes}
use Rattle.exact_fraction.specs.declared.Op.TheVariants.{Minus}
use Rattle.exact_fraction.specs.declared.Passed.{Passed as PassedPair}
use Rattle.net_case.specs.Networks.{LiveNetwork}
use Rattle.net_case.specs.declared.live_parts.NetBranch.{NetBranch}
use Rattle.net_paths.specs.Detours.{IsBranchOf}
use Rattle.network_theory.specs.Networks.{Branch, Network}
use Rattle.network_theory.specs.Carrying.{IsCarried}
use Rattle.exact_flows.specs.FlowSystems.{IsFlowPassed}
use Rattle.exact_flows.specs.declared.stop.FlowStop.{FlowStop}
use Rattle.exact_flows.specs.declared.stop.FlowStop.TheVariants as flow_stop
use Rattle.dc_network.specs.DcNetworks.{ArePositive, dc_network}
use Rattle.factor_maker.specs.declared.stops.MakeStop.{MakeStop}
use Rattle.factor_maker.specs.declared.stops.MakeStop.TheVariants as stop

-- the most factors of a table
abbrev pub most_made : ℕ
most_made = 1000000

-- for each live branch one factor for each live bus
abbrev pub shift_count : LiveNetwork → ℕ
shift_count network = length network.branches * length network.buses

-- for each live branch and each listed outage, with the branch that is lost
abbrev pub loss_count : LiveNetwork → List ℕ → ℕ
loss_count network outages = length network.branches * length outages

-- the first live branch whose reactance is not above 0
pub record IsFirstNotPositive (network : LiveNetwork) (xs : List ℤ) (row : ℕ) : Type 0 where
  pub before : List ℤ
  pub x : ℤ
  pub after : List ℤ
  pub xs_are : xs ≡ before ++ x ∷ after
  pub above : ArePositive before
  pub not_above : x ≤ℤ pos 0
  pub row_is : row ≡ slice_index_or (map (λ l. l.row) network.branches) (length before) 0

-- what a branch carries from each of two buses to the reference, whose difference is too large
pub record IsDifference {N : Type 0} (value : N → Fraction) (bound : ℕ) (n : Network) (reference source sink : ℕ) (e : PassedPair N) : Type 0 where
  pub branch : Branch
  pub there : Contains n.branches branch
  pub op_is : e.op ≡ Minus
  pub from_source : IsCarried n reference source reference branch (value e.left)
  pub from_sink : IsCarried n reference sink reference branch (value e.right)
  pub passes : Passes bound e.op (value e.left) (value e.right)

-- two numbers that the exact factors of an outage may be made of, whose outcome is too large
abbrev pub IsOutagePair : {N : Type 0} → (N → Fraction) → ℕ → LiveNetwork → List ℤ → NetBranch → PassedPair N → Type 0
IsOutagePair value bound network xs k e =
    IsFlowPassed value bound (dc_network network xs (Some k.row)) network.reference e
    ⊎ IsDifference value bound (dc_network network xs (Some k.row)) network.reference k.from k.to e

-- of one of the listed outages
abbrev pub IsPairOfOne : {N : Type 0} → (N → Fraction) → ℕ → LiveNetwork → List ℤ → List ℕ → PassedPair N → Type 0
IsPairOfOne value bound network xs outages e = (row : ℕ) × (k : NetBranch) × Contains outages row × IsBranchOf network row k × IsOutagePair value bound network xs k e

-- Only want of memory and numbers that became too large stop the work on exact factors; P holds of the numbers, and memory says nothing.
abbrev pub OnPassed : {N : Type 0} → MakeStop N → (PassedPair N → Type 0) → Type 0
OnPassed (stop.TooMany many) P = ⊥
OnPassed (stop.NotPositive row) P = ⊥
OnPassed (stop.Passed e) P = P e
OnPassed stop.Memory P = Unit {0}

-- why there are no exact flows, as why no factors are made
abbrev pub made_stop : {N : Type 0} → FlowStop N → MakeStop N
made_stop (flow_stop.Passed e) = stop.Passed e
made_stop flow_stop.Memory = stop.Memory

-- There are too many factors; or else some reactance is not above 0; or else numbers became too large, of which P holds.
abbrev pub StopsAt : {N : Type 0} → ℕ → LiveNetwork → List ℤ → (PassedPair N → Type 0) → MakeStop N → Type 0
StopsAt count network xs P (stop.TooMany many) = (many ≡ count) × (most_made < count)
StopsAt count network xs P (stop.NotPositive row) = (count ≤ most_made) × IsFirstNotPositive network xs row
StopsAt count network xs P (stop.Passed e) = (count ≤ most_made) × ArePositive xs × P e
StopsAt count network xs P stop.Memory = Unit {0}

abbrev pub IsShiftStop : {N : Type 0} → (N → Fraction) → ℕ → LiveNetwork → List ℤ → MakeStop N → Type 0
IsShiftStop value bound network xs why = StopsAt (shift_count network) network xs (IsFlowPassed value bound (dc_network network xs None) network.reference) why

abbrev pub IsLossStop : {N : Type 0} → (N → Fraction) → ℕ → LiveNetwork → List ℤ → List ℕ → MakeStop N → Type 0
IsLossStop value bound network xs outages why = StopsAt (loss_count network outages) network xs (IsPairOfOne value bound network xs outages) why
