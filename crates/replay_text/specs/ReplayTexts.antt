-- The text of a replay, step by step.
use Rattle.std.specs.Prelude.{ℕ, ◌+◌, List, [], ◌∷◌, ◌++◌, codes, decimal}
use Rattle.fraction_theory.specs.Fraction.{Fraction}
use Rattle.market_data.specs.Scales.{mw_places, price_places}
use Rattle.market_model.specs.declared.participants.Parts.{Parts}
use Rattle.offer_book.specs.declared.edit_parts.EditFault.{EditFault}
use Rattle.offer_book.specs.declared.edit_parts.EditFault.TheVariants as fault
use Rattle.edit_table.specs.declared.Step.{Step}
use Rattle.edit_replay.specs.declared.step_outcome.StepOutcome.{StepOutcome}
use Rattle.edit_replay.specs.declared.step_outcome.StepOutcome.TheVariants as reply
use Rattle.edit_replay.specs.Replays.{stepped}
use Rattle.line_text.specs.Decimals.{decimal_text}
use Rattle.report_text.specs.Reports.{report_text}

-- why an edit is refused: the price of the block that the stair breaks against, and the MW above the room, are told
abbrev pub fault_text : EditFault → List ℕ
fault_text fault.NoBlock = codes "NoBlock"
fault_text fault.NoBus = codes "NoBus"
fault_text fault.NoLimit = codes "NoLimit"
fault_text fault.NoReserve = codes "NoReserve"
fault_text fault.Negative = codes "Negative"
fault_text (fault.OutOfOrder other) = codes "OutOfOrder " ++ decimal_text price_places other
fault_text (fault.OverCapacity over) = codes "OverCapacity " ++ decimal_text mw_places over

-- what a step of a market came to: whether an edit was accepted, or why not; or the report of a clear
abbrev pub came_to_text : Parts → StepOutcome Fraction → List ℕ
came_to_text m reply.Accepted = codes " edit accepted\n"
came_to_text m (reply.Refused f) = codes " edit refused " ++ fault_text f ++ codes "\n"
came_to_text m (reply.Clear o) = codes " clear\n" ++ report_text m o

-- the same with the step's number
unfoldable pub step_text : ℕ → Parts → StepOutcome Fraction → List ℕ
step_text number m o = codes "step " ++ decimal number ++ came_to_text m o

-- the steps of a market, the first of which has this number, each of the market as the steps before it have edited it
abbrev pub steps_text : ℕ → Parts → List Step → List (StepOutcome Fraction) → List ℕ
steps_text number m [] outcomes = []
steps_text number m (s ∷ steps) [] = []
steps_text number m (s ∷ steps) (o ∷ outcomes) = step_text number m o ++ steps_text (number + 1) (stepped m s) steps outcomes

-- a replay of the market by these steps, which came to these outcomes
abbrev pub replayed : Parts → List Step → List (StepOutcome Fraction) → List ℕ
replayed m [] outcomes = codes "no steps\n"
replayed m (s ∷ steps) outcomes = steps_text 1 m (s ∷ steps) outcomes
