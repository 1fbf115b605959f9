-- What a check works on.
use Rattle.std.specs.Prelude.{ℤ, List, All, Result, Ok}
use Rattle.case_text.specs.Matrices.{CaseMatrices}
use Rattle.market_data.specs.declared.scales.FactorPlaces.{FactorPlaces}
use Rattle.net_case.specs.Networks.{LiveNetwork}
use Rattle.net_case.specs.declared.live_parts.PostRating.TheVariants as rating
use Rattle.net_paths.specs.Detours.{IsLiveRow}
use Rattle.factor_residuals.specs.Residuals.{AreReactances}
use Rattle.refusal_text.specs.declared.refusals.Refusal.{Refusal}
use Rattle.market_inputs.specs.declared.checking.Inputs.{Inputs}
use Rattle.market_inputs.specs.declared.tables.Tables.{Tables}
use Rattle.market_inputs.specs.Cases.{IsJoinedNetwork, matrices_in, case_reactances}
use Rattle.market_inputs.specs.Files.{SizedGrid}
use Rattle.market_inputs.specs.Steps.{Is, Then}
use Rattle.market_inputs.specs.Tables.{AreTables}

-- a network with its reactances and its tables
abbrev pub inputs_of : LiveNetwork → List ℤ → Tables → Inputs
inputs_of network reactances tables = record { network = network; reactances = reactances; shift = tables.shift; loss = tables.loss; outages = tables.outages }

-- what the rows of a case and the bytes of its tables stand for, or the first fault: whether the case is joined, and its reactances, come before the tables
abbrev pub AreInputsOf : FactorPlaces → SizedGrid → CaseMatrices → Result Inputs Refusal → Type 0
AreInputsOf places grid matrices told =
    Then (IsJoinedNetwork rating.C matrices) (λ network.
    Then (Is (case_reactances matrices network)) (λ reactances.
    Then (AreTables places network grid) (λ tables.
    Is (Ok (inputs_of network reactances tables))))) told

-- What the bytes of a case and of its tables stand for, or the first fault. The factors may have so many places. The case comes first: its text, its rows, whether it is
-- joined, and its reactances.
abbrev pub AreInputs : FactorPlaces → SizedGrid → Result Inputs Refusal → Type 0
AreInputs places grid told = Then (Is (matrices_in grid.case)) (AreInputsOf places grid) told

-- one reactance for each live branch, and outages that are rows of live branches
pub record AreFit (inputs : Inputs) : Type 0 where
  pub reactances : AreReactances inputs.network inputs.reactances
  pub outages : All (IsLiveRow inputs.network) inputs.outages
