-- What tables of factors are made of.
use Rattle.std.specs.Prelude.{ℕ, List, length, Result, Ok}
use Rattle.case_text.specs.Matrices.{CaseMatrices}
use Rattle.net_case.specs.Networks.{IsNetwork, LiveNetwork}
use Rattle.net_case.specs.declared.live_parts.PostRating.TheVariants as rating
use Rattle.net_paths.specs.Connection.{JoinAll}
use Rattle.outage_list.specs.Listing.{AreOutages}
use Rattle.factor_residuals.specs.Residuals.{AreReactances}
use Rattle.refusal_text.specs.declared.refusals.Input.TheVariants as input
use Rattle.refusal_text.specs.declared.refusals.Refusal.{Refusal}
use Rattle.refusal_text.specs.declared.refusals.Refusal.TheVariants as refusal
use Rattle.market_inputs.specs.declared.making.FactorInputs.{FactorInputs}
use Rattle.market_inputs.specs.Cases.{IsJoinedNetwork, matrices_in, case_reactances}
use Rattle.market_inputs.specs.Files.{sized}
use Rattle.market_inputs.specs.Steps.{Is, Then}
use Rattle.market_inputs.specs.Tables.{AreOutagesIn}

-- what the rows of a case and the bytes of a table of outages stand for, or the first fault: whether the case is joined, and its reactances, come before the outages
abbrev pub AreFactorInputsOf : Result (List ℕ) Refusal → CaseMatrices → Result FactorInputs Refusal → Type 0
AreFactorInputsOf contingencies matrices told =
    Then (IsJoinedNetwork rating.C matrices) (λ network.
    Then (Is (case_reactances matrices network)) (λ reactances.
    Then (AreOutagesIn network contingencies) (λ outages.
    Is (Ok (record { network = network; reactances = reactances; outages = outages }))))) told

-- What the bytes of a case and of a table of outages stand for, or the first fault. The case comes first, as for a check: its text, its rows, whether it is joined, and its
-- reactances.
abbrev pub AreFactorInputs : List ℕ → List ℕ → Result FactorInputs Refusal → Type 0
AreFactorInputs case contingencies told =
    Then (Is (matrices_in (sized (refusal.TooLong input.Case) case))) (AreFactorInputsOf (sized (refusal.TooLong input.Contingencies) contingencies)) told

-- a network whose live branches join all its live buses, one reactance for each live branch, and outages that leave all buses joined
pub record AreFitToMake (inputs : FactorInputs) : Type 0 where
  pub network : IsNetwork inputs.network
  pub joined : JoinAll inputs.network.branches (length inputs.network.buses)
  pub reactances : AreReactances inputs.network inputs.reactances
  pub outages : AreOutages inputs.network inputs.outages
