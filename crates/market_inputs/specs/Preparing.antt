-- What tables are prepared of.
use Rattle.std.specs.Prelude.{ℕ, List, Result, Ok, Err}
use Rattle.std.specs.Option.{option_map_or}
use Rattle.record_reading.specs.Steps.{and_then, or_as}
use Rattle.case_text.specs.Costs.{costs_of}
use Rattle.case_text.specs.Matrices.{Rows}
use Rattle.net_case.specs.declared.live_parts.PostRating.{PostRating}
use Rattle.refusal_text.specs.declared.refusals.Input.TheVariants as input
use Rattle.refusal_text.specs.declared.refusals.Refusal.{Refusal}
use Rattle.refusal_text.specs.declared.refusals.Refusal.TheVariants as refusal
use Rattle.market_inputs.specs.declared.preparing.CaseInputs.{CaseInputs}
use Rattle.market_inputs.specs.Cases.{IsJoinedNetwork, matrices_in}
use Rattle.market_inputs.specs.Files.{sized}
use Rattle.market_inputs.specs.Steps.{Is, Then}

-- what the bytes of a case stand for, or the first fault: its text, its rows, and whether it is joined
abbrev pub AreCaseInputs : PostRating → List ℕ → Result CaseInputs Refusal → Type 0
AreCaseInputs rating case told =
    Then (Is (matrices_in (sized (refusal.TooLong input.Case) case))) (λ matrices.
    Then (IsJoinedNetwork rating matrices) (λ network.
    Is (Ok (record { raw = matrices; network = network })))) told

-- the rows of the costs of the units, which must be there
abbrev pub costs_in : Result (List ℕ) Refusal → Result Rows Refusal
costs_in bytes =
    and_then bytes (λ text.
    and_then (or_as refusal.Costs (costs_of text)) (λ costs. option_map_or (λ rows. Ok rows) costs (Err refusal.NoCosts)))
