-- Whether limits could carry rights together, and where not, the first that is broken.
-- Hogan, Contract Networks for Electric Power Transmission (1992): the simultaneous feasibility test.
use Rattle.std.specs.Prelude.{◌≡◌, ◌⊎◌, ℕ, ◌<◌, List, ◌∷◌, ◌++◌, length, All}
use Rattle.fraction_theory.specs.Fraction.{Fraction}
use Rattle.fraction_theory.specs.Sums.{Term}
use Rattle.exact_fraction.specs.declared.Passed.{Passed}
use Rattle.market_model.specs.declared.limits.Row.{Row}
use Rattle.market_model.specs.declared.participants.Parts.{Parts}
use Rattle.market_model.specs.declared.participants.TransmissionRight.{TransmissionRight}
use Rattle.market_model.specs.LimitRows.{flow_by, limit, row_id, rows}
use Rattle.market_model.specs.Optimality.{AreWithin}
use Rattle.market_model.specs.Overrun.{Within}
use Rattle.market_model.specs.Rights.{rights_injection, rights_injection_terms, carried_for}
use Rattle.market_model.specs.SumTables.{IsRefusedAmong, LineFlowSum}
use Rattle.limit_rows.specs.Refusals.{IsAnyFlowRefusal}
use Rattle.rights_test.specs.declared.right_parts.Fit.{Fit}
use Rattle.rights_test.specs.declared.right_parts.Fit.TheVariants.{Fits, Breaks}

-- ---- which limit is broken
-- with the flow f of each row, the first row of the market whose flow is beyond its limit on either side; its excess is left aside
pub record IsFirstBroken (m : Parts) (f : Row → Fraction) (r : Row) : Type 0 where
  pub before : List Row
  pub behind : List Row
  pub order : rows m ≡ before ++ r ∷ behind
  pub kept : All (λ s. Within (limit m s) (f s)) before
  pub broken : ¬ (Within (limit m r) (f r))

-- all limits hold, or which is the first that does not, with its flow
abbrev pub IsFitBy : Parts → (Row → Fraction) → Fit Fraction → Type 0
IsFitBy m f Fits = AreWithin (rows m) (limit m) f
IsFitBy m f (Breaks name flow) = (r : Row) × IsFirstBroken m f r × (name ≡ row_id m r) × (flow ≡ f r)

-- the fit of rights, by their flows
abbrev pub IsFit : Parts → List TransmissionRight → Fit Fraction → Type 0
IsFit m rights fit = IsFitBy m (flow_by m (carried_for m rights)) fit

-- a fit with its flow as the fraction that it stands for
abbrev pub fit_at : {N : Type 0} → (N → Fraction) → Fit N → Fit Fraction
fit_at value Fits = Fits
fit_at value (Breaks name flow) = Breaks name (value flow)

-- ---- what may be refused of that
-- what rights put in at one of so many buses
pub data RightsInjectionSum (buses : ℕ) (rights : List TransmissionRight) : List Term → Type 0 where
  put_by_rights : (i : ℕ) → i < buses → RightsInjectionSum buses rights (rights_injection_terms rights i)

-- that, and the flow of a line there
pub data RightsFlowSum (m : Parts) (rights : List TransmissionRight) : List Term → Type 0 where
  rights_at_bus : (terms : List Term) → RightsInjectionSum (length m.buses) rights terms → RightsFlowSum m rights terms
  rights_on_line : (terms : List Term) → LineFlowSum m (rights_injection rights) terms → RightsFlowSum m rights terms

-- an operation refused where the fit of rights is looked for: in one of these, or for the flow of a row of the market
abbrev pub IsFitRefusal : Parts → List TransmissionRight → ℕ → Passed Fraction → Type 0
IsFitRefusal m rights bound p = IsRefusedAmong (RightsFlowSum m rights) bound p ⊎ IsAnyFlowRefusal m (carried_for m rights) bound p
